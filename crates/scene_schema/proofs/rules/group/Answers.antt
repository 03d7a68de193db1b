use mathlib.Core.Path.{◌≡◌, refl, ap}
use Prim.Native.Nat.{ℕ}
use lib.ListN.{get_or}
use Rattle.model.specs.Lists.{tabulate}
use Rattle.scene_schema.specs.declared.Rule.{Rule}
use Rattle.scene_schema.specs.Numbers.{slot_rules, no_rule}
use Rattle.scene_schema.proofs.Tables.{arm, last_arm, is_slot}
use Rattle.scene_schema.proofs.rules.group.Goals as goal

group-arm : {g i : ℕ} → g ≡ i → (get_or slot_rules i no_rule).one_of ≡ (get_or slot_rules g no_rule).one_of
group-arm e = ap (λ (r : Rule). r.one_of) (arm slot_rules no_rule e)

pub returns-in_default : goal.returns-in_default
unfolding tabulate
returns-in_default c =
    ap (λ (r : Rule). r.one_of) (last_arm slot_rules no_rule is_slot refl _ c.in_default.in_default-own.rest)

pub returns-in-0 : goal.returns-in-0
returns-in-0 c = group-arm c.in-0.is

pub returns-in-1 : goal.returns-in-1
returns-in-1 c = group-arm c.in-1.is

pub returns-in-2 : goal.returns-in-2
returns-in-2 c = group-arm c.in-2.is

pub returns-in-16 : goal.returns-in-16
returns-in-16 c = group-arm c.in-16.is

pub returns-in-17 : goal.returns-in-17
returns-in-17 c = group-arm c.in-17.is

pub returns-in-18 : goal.returns-in-18
returns-in-18 c = group-arm c.in-18.is

pub returns-in-19 : goal.returns-in-19
returns-in-19 c = group-arm c.in-19.is

pub returns-in-20 : goal.returns-in-20
returns-in-20 c = group-arm c.in-20.is

pub returns-in-21 : goal.returns-in-21
returns-in-21 c = group-arm c.in-21.is

pub returns-in-32 : goal.returns-in-32
returns-in-32 c = group-arm c.in-32.is

pub returns-in-33 : goal.returns-in-33
returns-in-33 c = group-arm c.in-33.is

pub returns-in-34 : goal.returns-in-34
returns-in-34 c = group-arm c.in-34.is

pub returns-in-35 : goal.returns-in-35
returns-in-35 c = group-arm c.in-35.is

pub returns-in-36 : goal.returns-in-36
returns-in-36 c = group-arm c.in-36.is

pub returns-in-37 : goal.returns-in-37
returns-in-37 c = group-arm c.in-37.is

pub returns-in-38 : goal.returns-in-38
returns-in-38 c = group-arm c.in-38.is

pub returns-in-39 : goal.returns-in-39
returns-in-39 c = group-arm c.in-39.is

pub returns-in-40 : goal.returns-in-40
returns-in-40 c = group-arm c.in-40.is

pub returns-in-41 : goal.returns-in-41
returns-in-41 c = group-arm c.in-41.is

pub returns-in-42 : goal.returns-in-42
returns-in-42 c = group-arm c.in-42.is

pub returns-in-43 : goal.returns-in-43
returns-in-43 c = group-arm c.in-43.is

pub returns-in-48 : goal.returns-in-48
returns-in-48 c = group-arm c.in-48.is

pub returns-in-49 : goal.returns-in-49
returns-in-49 c = group-arm c.in-49.is

pub returns-in-64 : goal.returns-in-64
returns-in-64 c = group-arm c.in-64.is

pub returns-in-65 : goal.returns-in-65
returns-in-65 c = group-arm c.in-65.is

pub returns-in-66 : goal.returns-in-66
returns-in-66 c = group-arm c.in-66.is

pub returns-in-67 : goal.returns-in-67
returns-in-67 c = group-arm c.in-67.is

pub returns-in-68 : goal.returns-in-68
returns-in-68 c = group-arm c.in-68.is

pub returns-in-69 : goal.returns-in-69
returns-in-69 c = group-arm c.in-69.is

pub returns-in-80 : goal.returns-in-80
returns-in-80 c = group-arm c.in-80.is

pub returns-in-81 : goal.returns-in-81
returns-in-81 c = group-arm c.in-81.is

pub returns-in-82 : goal.returns-in-82
returns-in-82 c = group-arm c.in-82.is

pub returns-in-83 : goal.returns-in-83
returns-in-83 c = group-arm c.in-83.is

pub returns-in-96 : goal.returns-in-96
returns-in-96 c = group-arm c.in-96.is

pub returns-in-97 : goal.returns-in-97
returns-in-97 c = group-arm c.in-97.is

pub returns-in-98 : goal.returns-in-98
returns-in-98 c = group-arm c.in-98.is

pub returns-in-112 : goal.returns-in-112
returns-in-112 c = group-arm c.in-112.is

pub returns-in-113 : goal.returns-in-113
returns-in-113 c = group-arm c.in-113.is

pub returns-in-128 : goal.returns-in-128
returns-in-128 c = group-arm c.in-128.is

pub returns-in-129 : goal.returns-in-129
returns-in-129 c = group-arm c.in-129.is
