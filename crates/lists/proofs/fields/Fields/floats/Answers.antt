use Rattle.std.proofs.Common.{ap, ◌∙◌, length, take}
use Rattle.lists.specs.Fields.{floats_of}
use Rattle.lists.proofs.Copying.{first_copied}
use Rattle.lists.proofs.fields.Fields.floats.Goals as goal

pub returns-clause-first : goal.returns-clause-first
returns-clause-first c =
    first_copied _ _ _ _ c.copy_floats.ensures ∙ ap (λ ws. take (length c.args.out.now) (floats_of ws)) c.list.ensures.value
