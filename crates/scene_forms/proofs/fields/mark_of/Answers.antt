use Rattle.scene_forms.proofs.fields.mark_of.Goals as goal

pub returns : goal.returns
returns c =
    let l = c.args.l in
    λ i. record {
      there = 1;
      start = c.start_in.ensures i;
      count = l.count;
      first = l.first;
      second = l.second;
    }
