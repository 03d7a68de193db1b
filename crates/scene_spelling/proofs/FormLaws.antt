-- The text of a form is that of its title, of its slots by their numbers, and of its end. Assumes nothing.
use mathlib.Core.Path.{◌≡◌, refl, sym, ap, ◌∙◌}
use mathlib.Core.List.{List, [], ◌∷◌, ◌++◌, append_assoc, append-nil}
use mathlib.Core.Option.{none, some}
use Prim.Native.Nat.{ℕ, suc, ◌+◌, ◌*◌, ◌<◌}
use native.Mathlib.Omega.{arith}
use lib.ListN.{length, get_or}
use Rattle.grammar.specs.Digits.{items_text}
use Rattle.grammar.specs.Forms.{Slot, Field, Form, field_text, fields_text, form_text}
use Rattle.spelling.specs.Pushed.{Out, pushes}
use Rattle.spelling.proofs.Pushing.{put-append}
use Rattle.scene_schema.specs.Schema.{kind_at, no_slot}
use Rattle.scene_schema.specs.Numbers.{titles, slot_names, no_name}
use Rattle.scene_schema.proofs.Numbers.{kind-is}
use Rattle.scene_spelling.specs.Texts.{slot_text}
use Rattle.scene_spelling.proofs.FieldLaws.{put_same}

-- ---- texts one after the other
abbrev pub joined : List ℕ → List (List ℕ) → List ℕ
joined xs [] = xs
joined xs (y ∷ ys) = joined (xs ++ y) ys

joined-append : (xs y : List ℕ) (ys : List (List ℕ)) → xs ++ joined y ys ≡ joined (xs ++ y) ys
joined-append xs y [] = refl
joined-append xs y (z ∷ ys) =
    joined-append xs (y ++ z) ys ∙ ap (λ (x : List ℕ). joined x ys) (sym (append_assoc xs y z))

pub put-joined : (xs y : List ℕ) (ys : List (List ℕ)) (o : Out) {mid left : Out} → mid ≡ pushes xs o
    → left ≡ pushes (joined y ys) mid → left ≡ pushes (joined (xs ++ y) ys) o
put-joined xs y ys o p q = put_same o (joined-append xs y ys) (put-append xs (joined y ys) o p q)

-- ---- the slots of a form from number g on
abbrev pub slot_texts : ℕ → List Slot → Form → List (List ℕ)
slot_texts g (t ∷ ts) (f ∷ fs) = slot_text g t.sort f ∷ slot_texts (suc g) ts fs
slot_texts g (t ∷ ts) [] = []
slot_texts g [] fs = []

abbrev Named : ℕ → List Slot → Type 0
Named g ts = (j : ℕ) → j < length ts → (get_or slot_names (g + j) no_name).letters ≡ (get_or ts j no_slot).name

field-text : (g : ℕ) (t : Slot) (f : Field) → (get_or slot_names g no_name).letters ≡ t.name
    → slot_text g t.sort f ≡ field_text t f
field-text g t none e = refl
field-text g t (some xs) e = ap (λ (name : List ℕ). 32 ∷ 40 ∷ name ++ items_text t.sort xs ++ 41 ∷ []) e

fields-text : (xs : List ℕ) (g : ℕ) (ts : List Slot) (fs : Form) → Named g ts
    → joined xs (slot_texts g ts fs) ≡ xs ++ fields_text ts fs
unfolding fields_text
fields-text xs g (t ∷ ts) (f ∷ fs) named =
    let first : g + 0 ≡ g = omega arith in
    let name = rw first at (named 0 (omega arith)) in
    fields-text (xs ++ slot_text g t.sort f) (suc g) ts fs
    (λ j h. let e : suc g + j ≡ g + suc j = omega arith in rw e (named (suc j) (omega arith)))
    ∙ append_assoc xs _ _ ∙ ap (λ (bs : List ℕ). xs ++ (bs ++ fields_text ts fs)) (field-text g t f name)
fields-text xs g (t ∷ ts) [] named = sym (append-nil xs)
fields-text xs g [] fs named = sym (append-nil xs)

-- ---- a form of kind k
abbrev pub spelled_form : ℕ → Form → List ℕ
spelled_form k fs =
    joined (40 ∷ (get_or titles k no_name).letters) (slot_texts (16 * k) (kind_at k).slots fs) ++ 41 ∷ 10 ∷ []

pub form-text : (k : ℕ) (fs : Form) → k < 9 → spelled_form k fs ≡ form_text (kind_at k) fs
form-text k fs h =
    let told = kind-is k h in
    let slots = (kind_at k).slots in
    ap (λ (bs : List ℕ). bs ++ 41 ∷ 10 ∷ [])
    (fields-text _ (16 * k) slots fs (λ j l. (told.slots j l).letters)
    ∙ (λ i. (40 ∷ told.letters i) ++ fields_text slots fs))

pub put-form : (k : ℕ) {fs gs : Form} (o : Out) {left : Out} → k < 9 → fs ≡ gs
    → left ≡ pushes (spelled_form k fs) o → left ≡ pushes (form_text (kind_at k) gs) o
put-form k {fs} o h e = put_same o (form-text k fs h ∙ ap (form_text (kind_at k)) e)
