mod Correcting
mod Posting
