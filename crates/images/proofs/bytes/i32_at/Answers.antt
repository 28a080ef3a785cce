-- The sign is read as two's complement has it.
use Rattle.std.proofs.Common.{ap, ◌∙◌, w32}
use Rattle.std.proofs.lemmas.Int.{to_z-of_z}
use Rattle.images.specs.Reading.{signed, i32_at}
use Rattle.images.proofs.Numbers.{signed_is}
use Rattle.images.proofs.bytes.i32_at.Goals as goal

pub returns : goal.returns
unfolding i32_at
returns c = record {
  value = to_z-of_z w32 c.cast_signed.result (record { sfits = c.cast_signed.type_inv }) ∙ c.cast_signed.ensures ∙ signed_is _ c.u32_at.type_inv ∙ ap signed c.u32_at.ensures.value;
}
