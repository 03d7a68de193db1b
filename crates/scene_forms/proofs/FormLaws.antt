-- What a form, the forms of a kind and a whole text leave in the tables. Assumes nothing.
use mathlib.Core.Path.{◌≡◌, refl, sym, ap, subst, ◌∙◌}
use mathlib.Core.List.{List, [], ◌∷◌}
use mathlib.Core.Bool.{Bool}
use Prim.Native.Nat.{ℕ, zero, suc, ◌+◌, ◌-◌, ◌%◌, ◌≤◌, ◌<◌, max}
use native.Mathlib.Omega.{arith}
use borrow.Author.Tests.{eq-eqb, ne_eqb, lt-ltb, le-ltb}
use lib.ListN.{length, get_or, drop}
use lib.Seq.{sets, drop-drop, length-sets}
use Rattle.borrowed.specs.Slices.{Change}
use Rattle.model.specs.Lists.{pick}
use Rattle.grammar.specs.Forms.{Kind, Form}
use Rattle.grammar.specs.Parsed.{Got, got, onto, name_in, fields_in, forms_in, code_of}
use Rattle.brackets.specs.declared.Met.{Met}
use Rattle.brackets.specs.declared.Spelling.{Spelling}
use Rattle.brackets.specs.Met.{meet, meets, judge}
use Rattle.brackets.specs.Read.{Passed, WordRead}
use Rattle.scene_schema.specs.Schema.{kind_at}
use Rattle.scene_schema.specs.Numbers.{Named, titles, no_name}
use Rattle.scene_marks.specs.declared.Mark.{Mark}
use Rattle.scene_marks.specs.Marks.{clear, mark_at, row_of, stride_of, groups_of}
use Rattle.scene_forms.specs.declared.Counts.{Counts}
use Rattle.scene_forms.specs.declared.Request.{Request}
use Rattle.scene_forms.specs.declared.Spot.{Spot}
use Rattle.scene_forms.specs.declared.Row.{Row}
use Rattle.scene_forms.specs.declared.Place.{Place}
use Rattle.scene_forms.specs.Filled.{Marked, opened, closed, put_fields, put_form}
use Rattle.spelling.specs.Pushed.{farthest}
use Rattle.scene_forms.specs.Filled.{ahead, list_slot, reach_in, request_in, put_forms}
use Rattle.scene_forms.specs.Read.{Slices, SameLengths, Within, marked_at, FieldsRead, read_at}
use Rattle.scene_forms.specs.Read.{opened_at, closed_at, FormRead, forms_at, FormsRead}
use Rattle.scene_forms.proofs.FieldLaws.{long-stays, long-more}

-- ---- slices

abbrev pub from-to : Slices → Slices → Change Slices
from-to a b = record { from = a; to = b }

-- other words
abbrev pub with_words : Slices → List ℕ → Slices
with_words a words = record {
  words = words;
  floats = a.floats;
  node_weights = a.node_weights;
  mesh_weights = a.mesh_weights;
}

pub within_on : {text : List ℕ} {c : Counts} {at next : ℕ} → Within text at c → at ≤ next → next ≤ length text
    → Within text next c
within_on w f i = record {
  inside = i;
  ids = omega (arith, w.ids);
  floats = omega (arith, w.floats);
  node_weights = omega (arith, w.node_weights);
  mesh_weights = omega (arith, w.mesh_weights);
}

-- ---- a form

-- its fields are put, then its record, and its end is passed
pub form-put : {text : List ℕ} {k : ℕ} {p : Place} {a b : Slices} {s : Spot} {f : Row} {r : Place} (words : List ℕ)
    → (get_or titles k no_name).letters ≡ (kind_at k).title → s ≡ opened_at text k p
    → FieldsRead text k s (from-to a b) f → words ≡ sets b.words p.rows (row_of k f.marks)
    → closed_at text k p f.spot f.marks r → FormRead text k p (from-to a (with_words b words)) r
unfolding put_form
form-put {text} {k} {p} {a} {b} {s} {f} {r} words t o e w c =
    let open_is : marked_at a s clear ≡ opened text k (read_at a p).filled
    = ap (λ (x : Spot). marked_at a x clear) o
    ∙ ap (λ (n : List ℕ). marked_at a (record {
      next = p.next;
      counts = p.counts;
      met = meets text (40 ∷ n) p.met;
      shape = p.shape;
    }) clear) t in
    let next-is : s.next ≡ p.next = ap (λ (x : Spot). x.next) o in
    let made : ℕ → Form = λ at. (fields_in (length text) (kind_at k).slots (drop at text)).made in
    let rest : ℕ → List ℕ = λ at. (fields_in (length text) (kind_at k).slots (drop at text)).rest in
    let m : marked_at b f.spot f.marks ≡ put_fields text k 0 (made p.next) (opened text k (read_at a p).filled)
    = e.marked ∙ (λ i. put_fields text k 0 (made (next-is i)) (open_is i)) in
    record {
      read =
          ap (λ (x : List ℕ). read_at (with_words b x) r) w
          ∙ ap (read_at (with_words b (sets b.words p.rows (row_of k f.marks)))) c.1
          ∙ ap (λ (x : Marked). closed text k x (read_at a p)) m;
      passed = record {
        left = c.0.left ∙ e.rest ∙ ap rest next-is;
        forth = omega (arith, c.0.forth, e.forth, next-is);
        inside = λ h. c.0.inside e.within.inside;
      };
      within = subst (Within text r.next) (sym (ap (λ (x : Place). x.counts) c.1))
          (within_on e.within c.0.forth (c.0.inside e.within.inside));
      long = record {
        words = ap length w ∙ length-sets b.words p.rows (row_of k f.marks) ∙ e.long.words;
        floats = e.long.floats;
        node_weights = e.long.node_weights;
        mesh_weights = e.long.mesh_weights;
      };
    }

-- ---- the forms of a kind

forms-on : (n left : ℕ) (k : Kind) (s : List ℕ) → 0 < left → (name_in s).made ≡ code_of k.title
    → forms_in n left k s ≡ onto (fields_in n k.slots (name_in s).rest).made
    (forms_in n (left - 1) k (fields_in n k.slots (name_in s).rest).rest)
unfolding forms_in
forms-on n zero k s h e = absurd (omega arith)
forms-on n (suc m) k s h e =
    let one : suc m - 1 ≡ m = omega arith in
    let f = fields_in n k.slots (name_in s).rest in
    ap (λ (b : Bool). pick b (onto f.made (forms_in n m k f.rest)) (got [] s))
    (eq-eqb (name_in s).made (code_of k.title) e)
    ∙ ap (λ (i : ℕ). onto f.made (forms_in n i k f.rest)) (sym one)

forms-off : (n left : ℕ) (k : Kind) (s : List ℕ) → ((name_in s).made ≡ code_of k.title → ⊥)
    → forms_in n left k s ≡ got [] s
unfolding forms_in
forms-off n zero k s e = refl
forms-off n (suc m) k s e =
    let f = fields_in n k.slots (name_in s).rest in
    ap (λ (b : Bool). pick b (onto f.made (forms_in n m k f.rest)) (got [] s))
    (ne_eqb (name_in s).made (code_of k.title) e)

-- the forms that are still to be read
abbrev forms_left : List ℕ → ℕ → ℕ → ℕ → Got (List Form)
forms_left text k left at = forms_in (length text) left (kind_at k) (drop at text)

-- what is still to be put makes up what was to be put
pub record FormsGoing (text : List ℕ) (k : ℕ) (p : Place) (a b : Slices) (q : Place) (count left : ℕ) : Type 0 where
  pub read : put_forms text k (forms_left text k left q.next).made (read_at b q)
      ≡ put_forms text k (forms_at text k p.next).made (read_at a p)
  pub rest : (forms_left text k left q.next).rest ≡ (forms_at text k p.next).rest
  pub counted : count + length (forms_left text k left q.next).made ≡ length (forms_at text k p.next).made
  pub forth : p.next ≤ q.next
  pub within : Within text q.next q.counts
  pub turns : count + left ≡ length text
  pub long : SameLengths (from-to a b)

pub forms-start : {text : List ℕ} {p : Place} (k : ℕ) (a : Slices) {left : ℕ} → Within text p.next p.counts
    → left ≡ length text → FormsGoing text k p a a p 0 left
forms-start {text} {p} k a h e = record {
  read = ap (λ (i : ℕ). put_forms text k (forms_left text k i p.next).made (read_at a p)) e;
  rest = ap (λ (i : ℕ). (forms_left text k i p.next).rest) e;
  counted = omega (arith, ap (λ (i : ℕ). length (forms_left text k i p.next).made) e);
  forth = omega arith;
  within = h;
  turns = omega arith;
  long = long-stays a;
}

module _ {text : List ℕ} {k : ℕ} {p : Place} {a b : Slices} {q : Place} {count left : ℕ}
    (g : FormsGoing text k p a b q count left) where
  forms-end : forms_left text k left q.next ≡ got [] (drop q.next text)
      → FormsRead text k p (from-to a b) (record { place = q; count = count })
  unfolding put_forms
  forms-end e =
      let c : count + 0 ≡ count = omega arith in
      record {
        read = ap (λ (w : Got (List Form)). put_forms text k w.made (read_at b q)) (sym e) ∙ g.read;
        counted = sym c ∙ ap (λ (w : Got (List Form)). count + length w.made) (sym e) ∙ g.counted;
        passed = record {
          left = ap (λ (w : Got (List Form)). w.rest) (sym e) ∙ g.rest;
          forth = g.forth;
          inside = λ h. g.within.inside;
        };
        within = g.within;
        long = g.long;
      }

  pub forms-other : {w : Spelling} {code : ℕ} → code ≡ code_of (kind_at k).title
      → WordRead text q.next (name_in (drop q.next text)) w → (w.value ≡ code → ⊥)
      → FormsRead text k p (from-to a b) (record { place = q; count = count })
  forms-other t r d =
      forms-end (forms-off (length text) left (kind_at k) (drop q.next text) (λ e. d (r.told ∙ e ∙ sym t)))

  pub forms-out : {n : ℕ} → left ≤ 0 → n ≡ count → FormsRead text k p (from-to a b) (record { place = q; count = n })
  unfolding forms_in
  forms-out h e =
      let z : left ≡ 0 = omega arith in
      rw e (forms-end (ap (λ (i : ℕ). forms_in (length text) i (kind_at k) (drop q.next text)) z))

  -- behind the title
  abbrev pub titled : ℕ → Place
  titled next = record {
    next = next;
    counts = q.counts;
    met = q.met;
    shape = q.shape;
    rows = q.rows;
    reach = q.reach;
    request = q.request;
  }

  pub titled-within : {w : Spelling} → WordRead text q.next (name_in (drop q.next text)) w
      → Within text w.next q.counts
  titled-within r = within_on g.within r.passed.forth (r.passed.inside g.within.inside)

  pub forms-more : {w : Spelling} {code : ℕ} {c : Slices} {r : Place} {less : ℕ} → 0 < left → less ≡ left - 1
      → code ≡ code_of (kind_at k).title
      → WordRead text q.next (name_in (drop q.next text)) w → w.value ≡ code
      → FormRead text k (titled w.next) (from-to b c) r → FormsGoing text k p a c r (count + 1) less
  unfolding put_forms
  forms-more {w} {code} {c} {r} {less} h fewer t n d s =
      let fields : List ℕ → Got Form = λ l. fields_in (length text) (kind_at k).slots l in
      let later = forms_left text k less r.next in
      let cons : forms_left text k left q.next ≡ onto (fields (drop w.next text)).made later
      = forms-on (length text) left (kind_at k) (drop q.next text) h (sym n.told ∙ d ∙ t)
      ∙ (λ i. onto (fields (sym n.passed.left i)).made
      (forms_in (length text) (sym fewer i) (kind_at k) (fields (sym n.passed.left i)).rest))
      ∙ ap (λ (l : List ℕ). onto (fields (drop w.next text)).made (forms_in (length text) less (kind_at k) l))
      (sym s.passed.left) in
      record {
        read =
            ap (put_forms text k later.made) s.read
            ∙ ap (λ (v : Got (List Form)). put_forms text k v.made (read_at b q)) (sym cons)
            ∙ g.read;
        rest = ap (λ (v : Got (List Form)). v.rest) (sym cons) ∙ g.rest;
        counted = omega (arith, g.counted, ap (λ (v : Got (List Form)). length v.made) cons);
        forth = omega (arith, g.forth, n.passed.forth, s.passed.forth);
        within = s.within;
        turns = omega (arith, g.turns);
        long = long-more g.long s.long;
      }

-- ---- between forms

pub goes_on : (at n : ℕ) → at < farthest → at + n ≡ ahead at n
goes_on at n h = ap (λ (b : Bool). pick b (at + n) at) (sym (lt-ltb at farthest h))

pub stands : (at n : ℕ) → farthest ≤ at → at ≡ ahead at n
stands at n h = ap (λ (b : Bool). pick b (at + n) at) (sym (le-ltb at farthest h))

pub same-request : (k : ℕ) (marks : List Mark) (r : Request) → (k ≡ 0 → ⊥) → r ≡ request_in k marks r
same-request k marks r d = λ i. pick (sym (ne_eqb k 0 d) i) (request_in 0 marks r) r

pub reach-told : (k : ℕ) (marks : List Mark) {m : Mark} {j : ℕ} → j ≡ list_slot k → m ≡ mark_at marks j
    → m.first % 0x1_0000_0000 + m.second % 0x1_0000_0000 ≡ reach_in k marks
reach-told k marks e f =
    let g = f ∙ ap (mark_at marks) e in
    λ i. (g i).first % 0x1_0000_0000 + (g i).second % 0x1_0000_0000

pub request-told : (k : ℕ) (marks : List Mark) (r : Request) {a b d : Mark} → (k ≡ 0) → a ≡ mark_at marks 0
    → b ≡ mark_at marks 1 → d ≡ mark_at marks 2
    → record { node = a.first; time = b.first; roots_at = d.start; roots = d.count } ≡ request_in k marks r
request-told k marks r z e f g =
    (λ i. record { node = (e i).first; time = (f i).first; roots_at = (g i).start; roots = (g i).count })
    ∙ ap (λ (t : Bool). pick t (request_in 0 marks r) r) (sym (eq-eqb k 0 z))

pub opened-told : (text : List ℕ) (k : ℕ) (p : Place) {name : Named} {m n : Met} → name ≡ get_or titles k no_name
    → m ≡ meet text 40 p.met → n ≡ meets text (name.letters) m
    → record { next = p.next; counts = p.counts; met = n; shape = p.shape } ≡ opened_at text k p
unfolding meets
opened-told text k p e f g = λ i. record {
  next = p.next;
  counts = p.counts;
  met = (g ∙ (λ j. meets text ((e j).letters) (f j))) i;
  shape = p.shape;
}

-- two bytes are passed
pub two-passed : {text : List ℕ} {at i next : ℕ} → Passed text at i (drop 1 (drop at text))
    → Passed text i next (drop 1 (drop i text)) → Passed text at next (drop 2 (drop at text))
two-passed {text} {at} p q = record {
  left = q.left ∙ ap (drop 1) p.left ∙ drop-drop 1 1 (drop at text);
  forth = omega (arith, p.forth, q.forth);
  inside = λ h. q.inside (p.inside h);
}

pub closed-told : (text : List ℕ) (k : ℕ) (p : Place) (s : Spot) (marks : List Mark) {a next n reach rows : ℕ}
    {m o shape : Met} {groups : Bool} {own : ℕ} {request : Request}
    → Passed text s.next a (drop 1 (drop s.next text)) → Passed text a next (drop 1 (drop a text))
    → m ≡ meet text 41 s.met → o ≡ meet text 10 m → groups ≡ groups_of k marks
    → shape ≡ judge groups s.met.at s.shape → n ≡ stride_of k → rows ≡ ahead p.rows n
    → own ≡ reach_in k marks → reach ≡ max p.reach own → request ≡ request_in k marks p.request
    → closed_at text k p s marks (record {
      next = next;
      counts = s.counts;
      met = o;
      shape = shape;
      rows = rows;
      reach = reach;
      request = request;
    })
unfolding meets
closed-told text k p s marks {next = next} u v em eo eg es en er ew ec eq = (
  two-passed u v,
  λ i. record {
    next = next;
    counts = s.counts;
    met = (eo ∙ ap (meet text 10) em) i;
    shape = (es ∙ ap (λ (b : Bool). judge b s.met.at s.shape) eg) i;
    rows = (er ∙ ap (ahead p.rows) en) i;
    reach = (ec ∙ ap (max p.reach) ew) i;
    request = eq i;
  },
)

pub opened-within : (text : List ℕ) (k : ℕ) (p : Place) {s : Spot} → s ≡ opened_at text k p
    → Within text p.next p.counts → Within text s.next s.counts
opened-within text k p e h = subst (λ (x : Spot). Within text x.next x.counts) (sym e) h
