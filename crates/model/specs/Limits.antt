-- The most that a call takes: scope, "Numbers when a piece is turned down". Above a limit is over size, 2. Definitions
-- only.
use Rattle.std.specs.Prelude.{ℕ}

abbrev pub node_limit : ℕ
node_limit = 1024

abbrev pub root_limit : ℕ
root_limit = 1024

abbrev pub child_entry_limit : ℕ
child_entry_limit = 8192

abbrev pub channel_limit : ℕ
channel_limit = 1024

-- of one track
abbrev pub key_limit : ℕ
key_limit = 65535

-- a frame of an even scalar track
abbrev pub weight_limit : ℕ
weight_limit = 64

-- of one skeleton
abbrev pub joint_limit : ℕ
joint_limit = 256

-- of one mesh
abbrev pub primitive_limit : ℕ
primitive_limit = 64

-- in each attribute and delta slot of a primitive
abbrev pub vertex_limit : ℕ
vertex_limit = 65535

-- of one primitive
abbrev pub target_limit : ℕ
target_limit = 64

-- of one target
abbrev pub in_between_limit : ℕ
in_between_limit = 16
