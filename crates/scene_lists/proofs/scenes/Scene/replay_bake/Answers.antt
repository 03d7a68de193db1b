use Rattle.std.proofs.Common.{◌≡◌, sym, ap, ◌∙◌, length, take, drop, take_at, arith}
use Rattle.model.specs.Bake.{Output}
use Rattle.bake.specs.Baked.{outcome, room_after}
use Rattle.lists.specs.Fields.{ahead_of, behind_list, list_at, floats_at}
use Rattle.scene_lists.specs.declared.bakes.Asked.{Asked}
use Rattle.scene_lists.specs.Bakes.{behind_outputs, walk_at, told_at, left_at, asked_at, answer_at, same_answer, outputs_compared, room_for, output_of, outputs_at, output_left}
use Rattle.scene_lists.specs.Lent.{lent_of}
use Rattle.scene_lists.proofs.Lending.{padded}
use Rattle.scene_lists.proofs.scenes.Scene.replay_bake.Goals as goal

pub returns-clause-value : goal.returns-clause-value
returns-clause-value c =
    let l = lent_of c.args.self.now in
    let fields = c.args.fields.now.all.now in
    let at = c.args.fields.now.at in
    let place = behind_outputs fields at in
    let p = c.floats-p in
    let n = c.floats-n in
    let t = c.floats-t in
    let all1 : p.new.self.all.now ≡ fields = p.ensures.moves.all in
    let at1 : p.new.self.at ≡ behind_list fields at 96 = p.ensures.moves.at in
    let all2 : n.new.self.all.now ≡ fields = n.ensures.moves.all ∙ all1 in
    let at2 : n.new.self.at ≡ behind_list fields (behind_list fields at 96) 96
    = n.ensures.moves.at ∙ (λ j. behind_list (all1 j) (at1 j) 96) in
    let all3 : t.new.self.all.now ≡ fields = t.ensures.moves.all ∙ all2 in
    let at3 : t.new.self.at ≡ place = t.ensures.moves.at ∙ (λ j. behind_list (all2 j) (at2 j) 96) in
    let all4 : c.read-asked.new.fields.all.now ≡ fields = c.read-asked.ensures.moves.all ∙ all3 in
    let at4 : c.read-asked.new.fields.at ≡ walk_at fields place
    = c.read-asked.ensures.moves.at ∙ (λ j. ahead_of (all3 j) (at3 j) 3) in
    let all5 : c.words-w.new.self.all.now ≡ fields = c.words-w.ensures.moves.all ∙ all4 in
    let at5 : c.words-w.new.self.at ≡ told_at fields place
    = c.words-w.ensures.moves.at ∙ (λ j. behind_list (all4 j) (at4 j) 64) in
    let all6 : c.right_answer.new.fields.all.now ≡ fields = c.right_answer.ensures.moves.all ∙ all5 in
    let at6 : c.right_answer.new.fields.at ≡ left_at fields place
    = c.right_answer.ensures.moves.at ∙ (λ j. ahead_of (all5 j) (at5 j) 5) in
    let asks : c.read-asked.result ≡ asked_at fields place = c.read-asked.ensures.value ∙ (λ j. asked_at (all3 j) (at3 j)) in
    let walk : take c.words-w.result c.words-w.new.out ≡ take 64 (list_at fields (walk_at fields place))
    = c.words-w.ensures.first ∙ (λ j. take 64 (list_at (all4 j) (at4 j))) in
    let positions = p.ensures.first in
    let normals = n.ensures.first ∙ (λ j. take 96 (floats_at (all1 j) (at1 j))) in
    let tangents = t.ensures.first ∙ (λ j. take 96 (floats_at (all2 j) (at2 j))) in
    let left : output_of c.bake-answer.new.positions c.bake-answer.new.normals c.bake-answer.new.tangents
    ≡ output_left l fields place (outputs_at fields at)
    = c.bake-answer.ensures.output
    ∙ (λ j.
    (room_after l (asks j).node (asks j).time (room_for (walk j) (output_of (positions j) (normals j) (tangents j)))).output) in
    let room1 : length c.bake-answer.new.positions ≡ p.result =
    omega (arith, c.bake-answer.auto.positions, p.ensures.value.counts.1) in
    let room2 : length c.bake-answer.new.normals ≡ n.result =
    omega (arith, c.bake-answer.auto.normals, n.ensures.value.counts.1) in
    let room3 : length c.bake-answer.new.tangents ≡ t.result =
    omega (arith, c.bake-answer.auto.tangents, t.ensures.value.counts.1) in
    let own1 = take_at c.bake-answer.new.positions (drop p.result p.new.out) p.result room1 ∙ ap (λ (o : Output). o.positions) left in
    let own2 = take_at c.bake-answer.new.normals (drop n.result n.new.out) n.result room2 ∙ ap (λ (o : Output). o.normals) left in
    let own3 = take_at c.bake-answer.new.tangents (drop t.result t.new.out) t.result room3 ∙ ap (λ (o : Output). o.tangents) left in
    record {
      compares = record {
        answered =
            c.bake-answer.ensures.answer
            ∙ (λ j.
            (outcome l (asks j).node (asks j).time (room_for (walk j) (output_of (positions j) (normals j) (tangents j)))).answer);
        right = c.is_told-told.ensures ∙ ap (same_answer c.bake-answer.result) (c.right_answer.ensures.value ∙ (λ j. answer_at (all5 j) (at5 j)));
        agreed =
            c.compare_outputs-floats.ensures.value
            ∙ (λ j. outputs_compared (own1 j) (own2 j) (own3 j) (all6 j) (at6 j) (asks j).most);
      };
      time = ap (λ (a : Asked). a.time) asks;
      as_long = record {
        positions =
            sym (ap (λ (o : Output). length o.positions) left)
            ∙ room1 ∙ p.ensures.value.counts.1 ∙ ap length positions;
        normals =
            sym (ap (λ (o : Output). length o.normals) left)
            ∙ room2 ∙ n.ensures.value.counts.1 ∙ ap length normals;
        tangents =
            sym (ap (λ (o : Output). length o.tangents) left)
            ∙ room3 ∙ t.ensures.value.counts.1 ∙ ap length tangents;
      };
      positions = padded _ _ _ _ _ p.ensures.value.wrote room1 (ap (λ (o : Output). o.positions) left);
      normals = padded _ _ _ _ _ n.ensures.value.wrote room2 (ap (λ (o : Output). o.normals) left);
    }
