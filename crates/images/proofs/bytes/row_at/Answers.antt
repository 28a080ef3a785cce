use Rattle.std.proofs.Common.{◌∙◌, w32}
use Rattle.std.proofs.lemmas.Int.{to_z-of_z}
use Rattle.images.specs.Reading.{row_at}
use Rattle.images.proofs.bytes.row_at.Goals as goal

pub returns : goal.returns
unfolding row_at
returns c =
    let p = to_z-of_z w32 c.i32_at.result (record { sfits = c.i32_at.type_inv }) ∙ c.i32_at.ensures.value in
    record { value = cc }
