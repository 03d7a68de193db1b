-- What a fold over the order of placing leaves at each node; the table of places tells the entries, and the entries the table.
-- Assumes nothing.
use mathlib.Core.Path.{◌≡◌, refl, sym, ap, ◌∙◌}
use mathlib.Core.Bool.{true, true≢false}
use mathlib.Core.List.Memᴰ
use mathlib.Core.List.{List, [], ◌∷◌, Memᴰ}
use mathlib.Core.Logic.{◌⊎◌, inl, inr}
use Prim.Native.Nat.{ℕ, zero, suc, ◌<◌, suc-le-suc}
use native.Mathlib.Omega.{arith}
use lib.ListN.{length, get_or, set, replicate}
use lib.Seq.{get_or-set_same, get_or-set_other}
use Rattle.model.specs.Lists.{foldl}
use Rattle.model.specs.Placing.{Place, unplaced, Entry, free, places_from}
use Rattle.model.proofs.Walking.{InTurn, apart}

pub free-in-range : (ps : List Place) (i : ℕ) → free ps i ≡ true → i < length ps
free-in-range [] i h = absurd (true≢false (sym h))
free-in-range (p ∷ ps) zero h = omega arith
free-in-range (p ∷ ps) (suc i) h = suc-le-suc (free-in-range ps i h)

pub replicate-at : {A : Type 0} (n i : ℕ) (d : A) → get_or (replicate n d) i d ≡ d
replicate-at zero i d = refl
replicate-at (suc n) zero d = refl
replicate-at (suc n) (suc i) d = replicate-at n i d

-- a store for each entry leaves alone what no entry names
pub untouched : {A : Type 0} (f : List A → Entry → A) (es : List Entry) (l : List A) (i : ℕ) (d : A) → ((e : Entry) → Memᴰ e es → e.node ≡ i → ⊥)
    → get_or (foldl (λ (m : List A) (e : Entry). set m e.node (f m e)) l es) i d ≡ get_or l i d
unfolding foldl
untouched f [] l i d h = refl
untouched f (e ∷ es) l i d h =
    untouched f es (set l e.node (f l e)) i d (λ c m. h c (Memᴰ.tail m))
    ∙ get_or-set_other l e.node i (f l e) d (λ q. h e (Memᴰ.head refl) (sym q))

-- the table tells the place of each entry
pub told : (ps : List Place) (es : List Entry) → InTurn ps es → (d : Entry) → Memᴰ d es → get_or (places_from ps es) d.node unplaced ≡ d.place
unfolding foldl
told ps [] h d m = absurd (Memᴰ.not-nil m)
told ps (e ∷ es) h d m = go (Memᴰ.cases_cons m) (told (set ps e.node e.place) es h.2 d)
  where
    qs : List Place
    qs = set ps e.node e.place

    first : get_or (places_from qs es) e.node unplaced ≡ e.place
    first =
        untouched (λ m c. c.place) es qs e.node unplaced (apart ps (e ∷ es) h).0
        ∙ get_or-set_same ps e.node e.place unplaced (free-in-range ps e.node h.0)

    go : (d ≡ e) ⊎ Memᴰ d es → (Memᴰ d es → get_or (places_from qs es) d.node unplaced ≡ d.place) → get_or (places_from qs es) d.node unplaced ≡ d.place
    go (inl q) r = (λ j. get_or (places_from qs es) (q j).node unplaced) ∙ first ∙ (λ j. (sym q j).place)
    go (inr q) r = r q

-- what a list holds after a store it held before, or it is what was stored
pub set_cases : {A : Type 0} (l : List A) (x i : ℕ) (v w d : A) → get_or (set l x v) i d ≡ w → (get_or l i d ≡ w) ⊎ ((i ≡ x) × (w ≡ v))
set_cases [] x i v w d h = inl h
set_cases (y ∷ l) zero zero v w d h = inr (refl, sym h)
set_cases (y ∷ l) zero (suc i) v w d h = inl h
set_cases (y ∷ l) (suc x) zero v w d h = inl h
set_cases (y ∷ l) (suc x) (suc i) v w d h = go (set_cases l x i v w d h)
  where
    go : (get_or l i d ≡ w) ⊎ ((i ≡ x) × (w ≡ v)) → (get_or l i d ≡ w) ⊎ ((suc i ≡ suc x) × (w ≡ v))
    go (inl g) = inl g
    go (inr g) = inr (ap suc g.0, g.1)

-- what the table tells, it told at the start, or an entry says it
pub said : (es : List Entry) (ps : List Place) (i : ℕ) (q : Place) → get_or (places_from ps es) i unplaced ≡ q
    → (get_or ps i unplaced ≡ q) ⊎ Memᴰ (record { node = i; place = q }) es
unfolding foldl
said [] ps i q h = inl h
said (e ∷ es) ps i q h = go (said es (set ps e.node e.place) i q h)
  where
    here : (get_or ps i unplaced ≡ q) ⊎ ((i ≡ e.node) × (q ≡ e.place)) → (get_or ps i unplaced ≡ q) ⊎ Memᴰ (record { node = i; place = q }) (e ∷ es)
    here (inl g) = inl g
    here (inr g) = inr (Memᴰ.head (λ j. record { node = g.0 j; place = g.1 j }))

    go : (get_or (set ps e.node e.place) i unplaced ≡ q) ⊎ Memᴰ (record { node = i; place = q }) es → (get_or ps i unplaced ≡ q) ⊎ Memᴰ (record { node = i; place = q }) (e ∷ es)
    go (inl g) = here (set_cases ps e.node i e.place q unplaced g)
    go (inr m) = inr (Memᴰ.tail m)
