use mathlib.Core.Path.{sym, ap, subst, ◌∙◌}
use lib.ListN.{length}
use Rattle.lent_bytes.specs.Bytes.{slices_of, Decoding, standing_in, Within}
use Rattle.lent_bytes.specs.declared.Ends.{Ends}
use Rattle.lent_bytes.proofs.Standing.{within, standing}
use Rattle.byte_bake.proofs.BytesLaws.{same-lent}
use Rattle.byte_bake.proofs.scenes.bake_decoded.Goals as goal

pub standing_in-standing-requires : goal.standing_in-standing-requires
standing_in-standing-requires c =
    let d : Decoding = record { words = c.args.word_room.now; floats = c.args.float_room.now } in
    subst (λ (e : Ends). Within e (length c.decode.new.words) (length c.decode.new.floats)) (sym c.ends_of-e.ensures)
    (within (slices_of c.args.lent) d c.requires _ _ c.decode.auto.words c.decode.auto.floats)

pub returns-clause-baked_in : goal.returns-clause-baked_in
returns-clause-baked_in c =
    let b = slices_of c.args.lent in
    let d : Decoding = record { words = c.args.word_room.now; floats = c.args.float_room.now } in
    let h = c.args.lent.header in
    let e = c.standing_in-standing.ensures
    ∙ (λ j. standing_in c.decode.new.words c.decode.new.floats (c.ends_of-e.ensures j) h)
    ∙ standing b h d _ _ (ap (λ (x : Decoding). x.words) c.decode.ensures) (ap (λ (x : Decoding). x.floats) c.decode.ensures) in
    same-lent e c.bake_over.ensures.baked
