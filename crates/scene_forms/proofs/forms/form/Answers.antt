use Rattle.scene_schema.proofs.Numbers.{kind-is}
use Rattle.scene_forms.proofs.FormLaws.{opened-within, form-put}
use Rattle.scene_forms.proofs.forms.form.Goals as goal

pub fields-f-requires : goal.fields-f-requires
fields-f-requires c =
    (opened-within _ c.args.k c.args.p c.opened-s.ensures c.requires.0, c.requires.1)

pub closed-requires : goal.closed-requires
closed-requires c = c.requires.1

pub returns : goal.returns
returns c = record {
  same = c.fields-f.ensures.same;
  read =
      form-put _ (kind-is _ c.requires.1).letters c.opened-s.ensures c.fields-f.ensures.read c.put_row.ensures
      c.closed.ensures;
}
