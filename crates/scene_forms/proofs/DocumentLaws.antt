-- What a whole text leaves in the tables, kind by kind. Assumes nothing.
use mathlib.Core.Path.{◌≡◌, refl, sym, ap, subst, ◌∙◌}
use mathlib.Core.List.{List, [], ◌∷◌, ◌++◌, map, append-nil}
use Prim.Native.Nat.{ℕ, suc, ◌+◌, ◌≤◌, ◌<◌}
use native.Mathlib.Numerals.{add-one}
use native.Mathlib.Omega.{arith}
use lib.ListN.{length, set, take, drop, drop_of_length-le, length-map, length-set}
use lib.Seq.{sets, drop-cons, sets-eq, take_all, take-suc-set}
use Rattle.grammar.specs.Forms.{Kind, Document}
use Rattle.grammar.specs.Parsed.{Got, got, onto, forms_in, document_in, parsed}
use Rattle.brackets.specs.declared.Met.{Met}
use Rattle.scene_schema.specs.Schema.{kinds, no_kind}
use Rattle.scene_forms.specs.declared.Place.{Place}
use Rattle.scene_forms.specs.declared.Block.{Block}
use Rattle.scene_forms.specs.Filled.{Read, put_document}
use Rattle.scene_forms.specs.Read.{Slices, SameLengths, Within, forms_at, FormsRead, whole_at, start_at}
use Rattle.scene_forms.specs.Read.{DocumentRead}
use Rattle.scene_forms.proofs.FormLaws.{from-to}
use Rattle.scene_forms.proofs.FieldLaws.{long-stays, long-more}

kinds-long : length kinds ≡ 9
unfolding kinds
kinds-long = refl

made-long : (n : ℕ) (ks : List Kind) (s : List ℕ) → length (document_in n ks s).made ≡ length ks
unfolding document_in
made-long n [] s = refl
made-long n (k ∷ ks) s = ap suc (made-long n ks (forms_in n n k s).rest)

-- a list of nine that has been stored from its start
nine-stored : (zeros xs : List ℕ) → length zeros ≡ 9 → length xs ≡ 9 → sets zeros 0 xs ≡ xs
nine-stored zeros xs z e =
    sets-eq xs zeros 0 (omega (arith, z, e))
    ∙ ap (λ (l : List ℕ). xs ++ l) (drop_of_length-le zeros {i = 0 + length xs} (omega (arith, z, e)))
    ∙ append-nil xs

-- the kinds that are still to be read, from kind k on
abbrev kinds_left : List ℕ → ℕ → ℕ → Got Document
kinds_left text k at = document_in (length text) (drop k kinds) (drop at text)

-- what is still to be put makes up what was to be put
pub record DocumentGoing (text : List ℕ) (o : Place) (a b : Slices) (zeros counts reaches : List ℕ) (q : Place)
    (k : ℕ) : Type 0 where
  pub read : put_document text k (kinds_left text k q.next).made (whole_at b (take k reaches) q)
      ≡ put_document text 0 (parsed kinds text) (whole_at a [] o)
  pub counted : sets counts k (map length (kinds_left text k q.next).made)
      ≡ sets zeros 0 (map length (parsed kinds text))
  pub rest : (kinds_left text k q.next).rest ≡ (document_in (length text) kinds text).rest
  pub within : Within text q.next q.counts
  pub upto : k ≤ 9
  pub nine : length counts ≡ 9
  pub reached : length reaches ≡ 9
  pub long : SameLengths (from-to a b)

pub document-start : (text : List ℕ) (rows : ℕ) (met : Met) {o : Place} {zeros reaches : List ℕ} (a : Slices)
    → o ≡ start_at rows met → length zeros ≡ 9 → length reaches ≡ 9
    → DocumentGoing text o a a zeros zeros reaches o 0
document-start text rows met {o} {zeros} {reaches} a e z r =
    subst (λ (x : Place). DocumentGoing text x a a zeros zeros reaches x 0) (sym e) (record {
      read = refl;
      counted = refl;
      rest = refl;
      within = record {
        inside = omega arith;
        ids = omega arith;
        floats = omega arith;
        node_weights = omega arith;
        mesh_weights = omega arith;
      };
      upto = omega arith;
      nine = z;
      reached = r;
      long = long-stays a;
    })

-- no list of the kind has been read
abbrev pub restarted : Place → Place
restarted q = record {
  next = q.next;
  counts = q.counts;
  met = q.met;
  shape = q.shape;
  rows = q.rows;
  reach = 0;
  request = q.request;
}

module _ {text : List ℕ} {o : Place} {a b : Slices} {zeros counts reaches : List ℕ} {q : Place} {k : ℕ}
    (g : DocumentGoing text o a b zeros counts reaches q k) where
  pub document-more : {c : Slices} {r : Block} {counts' reaches' : List ℕ} → k < 9
      → FormsRead text k (restarted q) (from-to b c) r
      → counts' ≡ set counts k r.count → reaches' ≡ set reaches k r.place.reach
      → DocumentGoing text o a c zeros counts' reaches' r.place (k + 1)
  unfolding document_in put_document
  document-more {c} {r} {counts'} {reaches'} h s e f =
      let n = length text in
      let forms = forms_at text k q.next in
      let l : k < length kinds = omega (arith, kinds-long) in
      let later = (kinds_left text (k + 1) r.place.next).made in
      let cons : kinds_left text k q.next ≡ onto forms.made (kinds_left text (k + 1) r.place.next)
      = ap (λ (ks : List Kind). document_in n ks (drop q.next text)) (drop-cons kinds k no_kind l)
      ∙ (λ i. onto forms.made (document_in n (drop (sym (add-one k) i) kinds) (sym s.passed.left i))) in
      let taken : take (k + 1) reaches' ≡ take k reaches ++ (r.place.reach ∷ [])
      = (λ i. take (add-one k i) (f i)) ∙ take-suc-set reaches k r.place.reach (omega (arith, g.reached)) in
      record {
        read =
            (λ i. put_document text (add-one k i) later (whole_at c (taken i) r.place))
            ∙ ap (λ (x : Read). put_document text (suc k) later (record {
              reaches = take k reaches ++ (x.reach ∷ []);
              read = x;
            })) s.read
            ∙ ap (λ (v : Got Document). put_document text k v.made (whole_at b (take k reaches) q)) (sym cons)
            ∙ g.read;
        counted =
            (λ i. sets ((e ∙ ap (set counts k) s.counted) i) (add-one k i) (map length later))
            ∙ ap (λ (v : Got Document). sets counts k (map length v.made)) (sym cons)
            ∙ g.counted;
        rest = ap (λ (v : Got Document). v.rest) (sym cons) ∙ g.rest;
        within = s.within;
        upto = omega arith;
        nine = ap length e ∙ length-set counts k r.count ∙ g.nine;
        reached = ap length f ∙ length-set reaches k r.place.reach ∙ g.reached;
        long = long-more g.long s.long;
      }

  pub document-done : (rows : ℕ) (met : Met) → o ≡ start_at rows met → 9 ≤ k → length zeros ≡ 9
      → DocumentRead text rows met (from-to a b) (record { place = q; counts = counts; reaches = reaches })
  unfolding document_in put_document
  document-done rows met e h z =
      let end : kinds_left text k q.next ≡ got [] (drop q.next text)
      = ap (λ (ks : List Kind). document_in (length text) ks (drop q.next text))
      (drop_of_length-le kinds {i = k} (omega (arith, kinds-long))) in
      let lens = map length (parsed kinds text) in
      let many : length lens ≡ 9
      = length-map (parsed kinds text) length ∙ made-long (length text) kinds text ∙ kinds-long in
      record {
        read =
            ap (λ (l : List ℕ). whole_at b l q) (sym (take_all k reaches (omega (arith, g.reached))))
            ∙ ap (λ (v : Got Document). put_document text k v.made (whole_at b (take k reaches) q)) (sym end)
            ∙ g.read
            ∙ ap (λ (x : Place). put_document text 0 (parsed kinds text) (whole_at a [] x)) e;
        counted =
            ap (λ (v : Got Document). sets counts k (map length v.made)) (sym end)
            ∙ g.counted
            ∙ nine-stored zeros lens z many;
        rest = ap (λ (v : Got Document). v.rest) (sym end) ∙ g.rest;
        within = g.within;
      }
