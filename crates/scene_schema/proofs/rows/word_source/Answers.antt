use mathlib.Core.Path.{refl}
use mathlib.Core.Bool.{Bool, true, false}
use lib.ListN.{get_or}
use Rattle.model.specs.Lists.{tabulate}
use Rattle.scene_schema.specs.Layout.{layout}
use Rattle.scene_schema.specs.declared.Source.{Source}
use Rattle.std.proofs.Common.{Option, Some, None}
use Rattle.scene_schema.proofs.Tables.{arm, last_arm}
use Rattle.scene_schema.proofs.rows.word_source.Goals as goal

-- whether a word is taken from somewhere
abbrev taken : Option Source → Bool
taken None = false
taken (Some s) = true

pub returns-in_default : goal.returns-in_default
unfolding tabulate
returns-in_default c = last_arm layout None (λ g. taken (get_or layout g None)) refl _
    c.in_default.in_default-own.rest

pub returns-in-16 : goal.returns-in-16
returns-in-16 c = arm layout None c.in-16.is

pub returns-in-17 : goal.returns-in-17
returns-in-17 c = arm layout None c.in-17.is

pub returns-in-18 : goal.returns-in-18
returns-in-18 c = arm layout None c.in-18.is

pub returns-in-19 : goal.returns-in-19
returns-in-19 c = arm layout None c.in-19.is

pub returns-in-20 : goal.returns-in-20
returns-in-20 c = arm layout None c.in-20.is

pub returns-in-21 : goal.returns-in-21
returns-in-21 c = arm layout None c.in-21.is

pub returns-in-22 : goal.returns-in-22
returns-in-22 c = arm layout None c.in-22.is

pub returns-in-23 : goal.returns-in-23
returns-in-23 c = arm layout None c.in-23.is

pub returns-in-24 : goal.returns-in-24
returns-in-24 c = arm layout None c.in-24.is

pub returns-in-25 : goal.returns-in-25
returns-in-25 c = arm layout None c.in-25.is

pub returns-in-26 : goal.returns-in-26
returns-in-26 c = arm layout None c.in-26.is

pub returns-in-32 : goal.returns-in-32
returns-in-32 c = arm layout None c.in-32.is

pub returns-in-33 : goal.returns-in-33
returns-in-33 c = arm layout None c.in-33.is

pub returns-in-34 : goal.returns-in-34
returns-in-34 c = arm layout None c.in-34.is

pub returns-in-35 : goal.returns-in-35
returns-in-35 c = arm layout None c.in-35.is

pub returns-in-36 : goal.returns-in-36
returns-in-36 c = arm layout None c.in-36.is

pub returns-in-37 : goal.returns-in-37
returns-in-37 c = arm layout None c.in-37.is

pub returns-in-38 : goal.returns-in-38
returns-in-38 c = arm layout None c.in-38.is

pub returns-in-39 : goal.returns-in-39
returns-in-39 c = arm layout None c.in-39.is

pub returns-in-48 : goal.returns-in-48
returns-in-48 c = arm layout None c.in-48.is

pub returns-in-49 : goal.returns-in-49
returns-in-49 c = arm layout None c.in-49.is

pub returns-in-50 : goal.returns-in-50
returns-in-50 c = arm layout None c.in-50.is

pub returns-in-51 : goal.returns-in-51
returns-in-51 c = arm layout None c.in-51.is

pub returns-in-64 : goal.returns-in-64
returns-in-64 c = arm layout None c.in-64.is

pub returns-in-65 : goal.returns-in-65
returns-in-65 c = arm layout None c.in-65.is

pub returns-in-66 : goal.returns-in-66
returns-in-66 c = arm layout None c.in-66.is

pub returns-in-67 : goal.returns-in-67
returns-in-67 c = arm layout None c.in-67.is

pub returns-in-68 : goal.returns-in-68
returns-in-68 c = arm layout None c.in-68.is

pub returns-in-69 : goal.returns-in-69
returns-in-69 c = arm layout None c.in-69.is

pub returns-in-70 : goal.returns-in-70
returns-in-70 c = arm layout None c.in-70.is

pub returns-in-71 : goal.returns-in-71
returns-in-71 c = arm layout None c.in-71.is

pub returns-in-72 : goal.returns-in-72
returns-in-72 c = arm layout None c.in-72.is

pub returns-in-73 : goal.returns-in-73
returns-in-73 c = arm layout None c.in-73.is

pub returns-in-74 : goal.returns-in-74
returns-in-74 c = arm layout None c.in-74.is

pub returns-in-75 : goal.returns-in-75
returns-in-75 c = arm layout None c.in-75.is

pub returns-in-76 : goal.returns-in-76
returns-in-76 c = arm layout None c.in-76.is

pub returns-in-77 : goal.returns-in-77
returns-in-77 c = arm layout None c.in-77.is

pub returns-in-78 : goal.returns-in-78
returns-in-78 c = arm layout None c.in-78.is

pub returns-in-79 : goal.returns-in-79
returns-in-79 c = arm layout None c.in-79.is

pub returns-in-80 : goal.returns-in-80
returns-in-80 c = arm layout None c.in-80.is

pub returns-in-81 : goal.returns-in-81
returns-in-81 c = arm layout None c.in-81.is

pub returns-in-82 : goal.returns-in-82
returns-in-82 c = arm layout None c.in-82.is

pub returns-in-83 : goal.returns-in-83
returns-in-83 c = arm layout None c.in-83.is

pub returns-in-84 : goal.returns-in-84
returns-in-84 c = arm layout None c.in-84.is

pub returns-in-85 : goal.returns-in-85
returns-in-85 c = arm layout None c.in-85.is

pub returns-in-86 : goal.returns-in-86
returns-in-86 c = arm layout None c.in-86.is

pub returns-in-87 : goal.returns-in-87
returns-in-87 c = arm layout None c.in-87.is

pub returns-in-88 : goal.returns-in-88
returns-in-88 c = arm layout None c.in-88.is

pub returns-in-89 : goal.returns-in-89
returns-in-89 c = arm layout None c.in-89.is

pub returns-in-90 : goal.returns-in-90
returns-in-90 c = arm layout None c.in-90.is

pub returns-in-96 : goal.returns-in-96
returns-in-96 c = arm layout None c.in-96.is

pub returns-in-97 : goal.returns-in-97
returns-in-97 c = arm layout None c.in-97.is

pub returns-in-98 : goal.returns-in-98
returns-in-98 c = arm layout None c.in-98.is

pub returns-in-99 : goal.returns-in-99
returns-in-99 c = arm layout None c.in-99.is

pub returns-in-100 : goal.returns-in-100
returns-in-100 c = arm layout None c.in-100.is

pub returns-in-101 : goal.returns-in-101
returns-in-101 c = arm layout None c.in-101.is

pub returns-in-102 : goal.returns-in-102
returns-in-102 c = arm layout None c.in-102.is

pub returns-in-112 : goal.returns-in-112
returns-in-112 c = arm layout None c.in-112.is

pub returns-in-113 : goal.returns-in-113
returns-in-113 c = arm layout None c.in-113.is

pub returns-in-114 : goal.returns-in-114
returns-in-114 c = arm layout None c.in-114.is

pub returns-in-128 : goal.returns-in-128
returns-in-128 c = arm layout None c.in-128.is

pub returns-in-129 : goal.returns-in-129
returns-in-129 c = arm layout None c.in-129.is

pub returns-in-130 : goal.returns-in-130
returns-in-130 c = arm layout None c.in-130.is

pub returns-in-131 : goal.returns-in-131
returns-in-131 c = arm layout None c.in-131.is
