-- A refusal is known by its number. Assumes nothing.
use mathlib.Core.Path.{◌≡◌, refl, sym, ap, ◌∙◌}
use mathlib.Core.List.{List, [], ◌∷◌}
use Prim.Native.Nat.{ℕ}
use lib.ListN.{get_or}
use Rattle.refusals.specs.Drawn.{number_of}
use Rattle.refusals.specs.declared.Refusal.{Refusal}
use Rattle.refusals.specs.declared.Refusal.TheVariants.{OutOfTable, OverLimit, NoTime, UnevenTrack, KeysOutOfLine}
use Rattle.refusals.specs.declared.Refusal.TheVariants.{ShortScratch, NoSuchNode, UnplacedNode, NoPalette, ShortOutput}
use Rattle.refusals.specs.declared.Refusal.TheVariants.{NoCommonRoot, NoSuchFrame, BadForm}

in_order : List Refusal
in_order =
    OutOfTable ∷ OverLimit ∷ NoTime ∷ UnevenTrack ∷ KeysOutOfLine ∷ ShortScratch ∷ NoSuchNode ∷ UnplacedNode ∷ NoPalette
    ∷ ShortOutput ∷ NoCommonRoot ∷ NoSuchFrame ∷ BadForm ∷ []

numbered : ℕ → Refusal
numbered n = get_or (BadForm ∷ in_order) n BadForm

by-number : (r : Refusal) → numbered (number_of r) ≡ r
unfolding numbered in_order
by-number OutOfTable = refl
by-number OverLimit = refl
by-number NoTime = refl
by-number UnevenTrack = refl
by-number KeysOutOfLine = refl
by-number ShortScratch = refl
by-number NoSuchNode = refl
by-number UnplacedNode = refl
by-number NoPalette = refl
by-number ShortOutput = refl
by-number NoCommonRoot = refl
by-number NoSuchFrame = refl
by-number BadForm = refl

pub same-number : (a b : Refusal) → number_of a ≡ number_of b → a ≡ b
same-number a b e = sym (by-number a) ∙ ap numbered e ∙ by-number b
