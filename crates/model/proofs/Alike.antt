-- A scene agrees with itself on every node. Assumes nothing.
use mathlib.Core.Path.{◌≡◌, refl, subst}
use mathlib.Core.List.{List, [], ◌∷◌}
use Prim.Native.Nat.{ℕ}
use Rattle.model.specs.Scene.{Scene, skeleton_at}
use Rattle.model.specs.Agree.{Each, SamePath, joints_of, Agree}

each : {A : Type 0} (P : A → Type 0) → ((x : A) → P x) → (l : List A) → Each P l
each P h [] = tt
each P h (x ∷ xs) = (h x, each P h xs)

same-path : (s : Scene) (i : ℕ) → SamePath s s i
same-path s i a h p = record { base = refl; tracks = refl }

agrees : (s : Scene) (i : ℕ) → Agree s s i
agrees s i = record {
  listing = record { count = refl; roots = refl; lists = λ a h. refl };
  mesh = refl;
  weights = refl;
  skin = refl;
  skeleton = refl;
  path = same-path s i;
  joints = each (SamePath s s) (same-path s) (joints_of (skeleton_at s i));
}

-- so do scenes that are the same
pub agree-alike : (s₁ s₂ : Scene) → s₁ ≡ s₂ → (i : ℕ) → Agree s₁ s₂ i
agree-alike s₁ s₂ e i = subst (λ (s : Scene). Agree s₁ s i) e (agrees s₁ i)
