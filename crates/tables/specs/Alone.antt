-- A record whose words lie whole in a slice reads the same from these words alone: what a record must meet to be read
-- by `row`, and that each does.
use mathlib.Core.Path.{◌≡◌, ap, ◌∙◌}
use mathlib.Core.List.{List}
use Prim.Native.Nat.{ℕ, ◌+◌, ◌*◌, ◌<◌}
use native.Mathlib.Omega.{arith}
use lib.ListN.{get_or, take, drop}
use lib.Seq.{get_or-take, get_or-drop}
use Rattle.tracks.specs.declared.Part.{Part}
use Rattle.tables.specs.Records.{alone, word_of, part_of, slot_of, reference_of}
use Rattle.tables.specs.Records.{node_words, channel_words, mesh_words, primitive_words, target_words, in_between_words}
use Rattle.tables.specs.Records.{skin_words, skeleton_words, node_row, channel_row, mesh_row, primitive_row, target_row}
use Rattle.tables.specs.Records.{in_between_row, skin_row, skeleton_row}

-- record i of a table
abbrev pub Row : Type 0 → Type 0
Row A = List ℕ → Part → ℕ → A

-- a record of so many words, the same from its own words alone as from its table
pub record Reads {A : Type 0} (words : ℕ) (row : Row A) : Type 0 where
  pub some : 0 < words
  pub own : (l : List ℕ) (t : Part) (i : ℕ) (o : List ℕ) → o ≡ take words (drop (t.at + i * words) l)
      → row o alone 0 ≡ row l t i

module _ (words : List ℕ) (t : Part) (i : ℕ) (row : List ℕ) where
  module _ (stride : ℕ) (e : row ≡ take stride (drop (t.at + i * stride) words)) where
    same_word : (k : ℕ) → k < stride → word_of row alone stride 0 k ≡ word_of words t stride i k
    unfolding word_of
    same_word k h =
        let z : 0 + 0 * stride + k ≡ k = omega arith in
        ap (λ (n : ℕ). get_or row n 0) z
        ∙ ap (λ (l : List ℕ). get_or l k 0) e
        ∙ get_or-take stride (drop (t.at + i * stride) words) k 0 h
        ∙ get_or-drop (t.at + i * stride) words k 0

    same-part : (k : ℕ) → k + 1 < stride → part_of row alone stride 0 k ≡ part_of words t stride i k
    same-part k h = λ j. record { at = same_word k (omega arith) j; count = same_word (k + 1) h j }

    same-slot : (k : ℕ) → k + 1 + 1 < stride → slot_of row alone stride 0 k ≡ slot_of words t stride i k
    same-slot k h = λ j. record { mark = same_word k (omega arith) j; part = same-part (k + 1) h j }

    same-reference : (k : ℕ) → k + 1 < stride → reference_of row alone stride 0 k ≡ reference_of words t stride i k
    same-reference k h = λ j. record { mark = same_word k (omega arith) j; id = same_word (k + 1) h j }

  -- ---- each record

  pub same-node : row ≡ take node_words (drop (t.at + i * node_words) words) → node_row row alone 0 ≡ node_row words t i
  same-node e = λ j. record {
    form = same_word node_words e 0 (omega arith) j;
    base = same_word node_words e 1 (omega arith) j;
    children = same-part node_words e 2 (omega arith) j;
    mesh = same-reference node_words e 4 (omega arith) j;
    skin = same-reference node_words e 6 (omega arith) j;
    weights = same-slot node_words e 8 (omega arith) j;
  }

  pub same-channel : row ≡ take channel_words (drop (t.at + i * channel_words) words)
      → channel_row row alone 0 ≡ channel_row words t i
  same-channel e = λ j. record {
    target = same_word channel_words e 0 (omega arith) j;
    property = same_word channel_words e 1 (omega arith) j;
    kind = same_word channel_words e 2 (omega arith) j;
    interpolation = same_word channel_words e 3 (omega arith) j;
    keys = same-part channel_words e 4 (omega arith) j;
    values = same-part channel_words e 6 (omega arith) j;
  }

  pub same-mesh : row ≡ take mesh_words (drop (t.at + i * mesh_words) words) → mesh_row row alone 0 ≡ mesh_row words t i
  same-mesh e = λ j. record {
    primitives = same-part mesh_words e 0 (omega arith) j;
    weights = same-part mesh_words e 2 (omega arith) j;
  }

  pub same-primitive : row ≡ take primitive_words (drop (t.at + i * primitive_words) words)
      → primitive_row row alone 0 ≡ primitive_row words t i
  same-primitive e = λ j. record {
    positions = same-part primitive_words e 0 (omega arith) j;
    normals = same-slot primitive_words e 2 (omega arith) j;
    tangents = same-slot primitive_words e 5 (omega arith) j;
    joints = same-slot primitive_words e 8 (omega arith) j;
    weights = same-slot primitive_words e 11 (omega arith) j;
    targets = same-part primitive_words e 14 (omega arith) j;
  }

  pub same_target : row ≡ take target_words (drop (t.at + i * target_words) words)
      → target_row row alone 0 ≡ target_row words t i
  same_target e = λ j. record {
    positions = same-slot target_words e 0 (omega arith) j;
    normals = same-slot target_words e 3 (omega arith) j;
    tangents = same-slot target_words e 6 (omega arith) j;
    in_betweens = same-part target_words e 9 (omega arith) j;
  }

  pub same-in-between : row ≡ take in_between_words (drop (t.at + i * in_between_words) words)
      → in_between_row row alone 0 ≡ in_between_row words t i
  same-in-between e = λ j. record {
    weight = same_word in_between_words e 0 (omega arith) j;
    positions = same-slot in_between_words e 1 (omega arith) j;
    normals = same-slot in_between_words e 4 (omega arith) j;
  }

  pub same-skin : row ≡ take skin_words (drop (t.at + i * skin_words) words) → skin_row row alone 0 ≡ skin_row words t i
  same-skin e = λ j. record {
    skeleton = same_word skin_words e 0 (omega arith) j;
    root = same-reference skin_words e 1 (omega arith) j;
  }

  pub same-skeleton : row ≡ take skeleton_words (drop (t.at + i * skeleton_words) words)
      → skeleton_row row alone 0 ≡ skeleton_row words t i
  same-skeleton e = λ j. record {
    joints = same-part skeleton_words e 0 (omega arith) j;
    inverse_binds = same-part skeleton_words e 2 (omega arith) j;
  }

pub node_laws : Reads node_words node_row
node_laws = record { some = omega arith; own = λ l t i o. same-node l t i o }

pub channel_laws : Reads channel_words channel_row
channel_laws = record { some = omega arith; own = λ l t i o. same-channel l t i o }

pub mesh_laws : Reads mesh_words mesh_row
mesh_laws = record { some = omega arith; own = λ l t i o. same-mesh l t i o }

pub primitive_laws : Reads primitive_words primitive_row
primitive_laws = record { some = omega arith; own = λ l t i o. same-primitive l t i o }

pub target_laws : Reads target_words target_row
target_laws = record { some = omega arith; own = λ l t i o. same_target l t i o }

pub in_between_laws : Reads in_between_words in_between_row
in_between_laws = record { some = omega arith; own = λ l t i o. same-in-between l t i o }

pub skin_laws : Reads skin_words skin_row
skin_laws = record { some = omega arith; own = λ l t i o. same-skin l t i o }

pub skeleton_laws : Reads skeleton_words skeleton_row
skeleton_laws = record { some = omega arith; own = λ l t i o. same-skeleton l t i o }
