use Rattle.std.proofs.Common.{ap, ◌∙◌, length, take}
use Rattle.lists.proofs.Copying.{first_copied}
use Rattle.lists.proofs.fields.Fields.words.Goals as goal

pub returns-clause-first : goal.returns-clause-first
returns-clause-first c =
    first_copied _ _ _ _ c.copy_words.ensures ∙ ap (take (length c.args.out.now)) c.list.ensures.value
