use mathlib.Core.Path.{◌≡◌, sym, ap, ◌∙◌}
use mathlib.Core.List.{List}
use Prim.Native.Nat.{ℕ, ◌+◌, ◌*◌}
use lib.ListN.{get_or}
use Rattle.std.proofs.Common.{Some}
use Rattle.scene_schema.specs.declared.Source.{Source}
use Rattle.scene_schema.specs.Numbers.{slot_rules, no_rule}
use Rattle.scene_marks.specs.declared.Mark.{Mark}
use Rattle.scene_marks.specs.Marks.{mark_at, entries_in, word_from}
use Rattle.scene_marks.proofs.word.Goals as goal

module _ (k : ℕ) (marks : List Mark) where
  told : {found source : Source} → found ≡ source → word_from k marks (Some source) ≡ word_from k marks (Some found)
  told e = sym (ap (λ (s : Source). word_from k marks (Some s)) e)

  mark : {m : Mark} {i j : ℕ} → m ≡ mark_at marks i → i ≡ j → m ≡ mark_at marks j
  mark e h = e ∙ ap (mark_at marks) h

pub returns-in-Tag : goal.returns-in-Tag
returns-in-Tag c =
    let a = c.args in
    c.chosen.ensures.0 ∙ told a.k a.marks.now c.in-Tag.is

pub returns-in-Mark : goal.returns-in-Mark
returns-in-Mark c =
    let a = c.args in
    ap (λ (m : Mark). m.there) c.mark_at-m.ensures
    ∙ told a.k a.marks.now c.in-Mark.is

pub returns-in-Start : goal.returns-in-Start
returns-in-Start c =
    let a = c.args in
    ap (λ (m : Mark). m.start) (mark a.k a.marks.now c.mark_at-m-in-Start.ensures c.the_one.ensures.0)
    ∙ told a.k a.marks.now c.in-Start.is

pub returns-in-Entries : goal.returns-in-Entries
returns-in-Entries c =
    let a = c.args in
    let j = c.the_one-j.ensures.0 in
    let m = mark a.k a.marks.now c.mark_at-m-in-Entries.ensures j in
    c.entries.ensures
    ∙ (λ l. entries_in (get_or slot_rules (16 * a.k + j l) no_rule).width (m l))
    ∙ told a.k a.marks.now c.in-Entries.is

pub returns-in-First : goal.returns-in-First
returns-in-First c =
    let a = c.args in
    ap (λ (m : Mark). m.first) c.mark_at-m-in-First.ensures
    ∙ told a.k a.marks.now c.in-First.is

pub returns-in-Second : goal.returns-in-Second
returns-in-Second c =
    let a = c.args in
    ap (λ (m : Mark). m.second) c.mark_at-m-in-Second.ensures
    ∙ told a.k a.marks.now c.in-Second.is
