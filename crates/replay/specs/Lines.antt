-- Lines of the list, and the answers that are right. Definitions only.
use Rattle.std.specs.Prelude.{Bool, ◌&&◌, List, ℕ, eqb, get_or, Option, Some, None}
use Rattle.std.specs.Float.{binary32}
use Rattle.std.specs.Float.Ieee.{to_bits}
use Rattle.float.specs.F32.{f32}
use Rattle.float.specs.F64.{f64}
use Rattle.float.specs.Sqrt.{sqrt_of}
use Rattle.float.specs.Narrow.{narrow_of}
use Rattle.turn.specs.Weight.{weight}
use Rattle.model.specs.Lists.{pick, part}
use Rattle.lists.specs.Digits.{number_of, word_of}
use Rattle.comparing.specs.Near.{near_by}
use Rattle.replay.specs.declared.line.Line.{Line}
use Rattle.replay.specs.declared.line.Question.{Question}
use Rattle.replay.specs.declared.line.Question.TheVariants.{Root, Narrowing, Weight}

-- what a letter asks, s, n or w, of sixteen digits, and of the first and the second eight of them
abbrev pub question_of : ℕ → ℕ → ℕ → ℕ → Option Question
question_of letter double first second =
    pick (eqb letter 115) (Some (Root (f32 second)))
    (pick (eqb letter 110) (Some (Narrowing (f64 double)))
    (pick (eqb letter 119) (Some (Weight (f32 first) (f32 second))) None))

-- with its answer
abbrev pub with_answer : Option Question → ℕ → Option Line
with_answer None answer = None
with_answer (Some q) answer = Some (record { question = q; answer = answer })

-- blanks and a line's end behind letter and digits
abbrev pub has_blanks : List ℕ → Bool
has_blanks line = eqb (get_or line 1 0) 32 && eqb (get_or line 18 0) 32 && eqb (get_or line 27 0) 10

-- a line of such numbers; there is none where a byte is no digit
abbrev pub line_of : List ℕ → Option ℕ → Option ℕ → Option ℕ → Option ℕ → Option Line
line_of line None first second answer = None
line_of line (Some d) None second answer = None
line_of line (Some d) (Some f) None answer = None
line_of line (Some d) (Some f) (Some s) None = None
line_of line (Some d) (Some f) (Some s) (Some a) =
    pick (has_blanks line) (with_answer (question_of (get_or line 0 0) d f s) a) None

-- a letter, a blank, 16 digits, a blank, 8 digits, a line's end
abbrev pub line_in : List ℕ → Option Line
line_in line =
    line_of line (number_of (part line 2 16)) (word_of (part line 2 8)) (word_of (part line 10 8)) (word_of (part line 19 8))

-- the bits of a square root, of a narrowing, and a turn weight within 2^-19
abbrev pub answers : Question → ℕ → Bool
answers (Root x) answer = eqb (to_bits binary32 (sqrt_of binary32 x)) answer
answers (Narrowing x) answer = eqb (to_bits binary32 (narrow_of x)) answer
answers (Weight v c) answer = near_by (weight v c) (f32 answer) (f64 0x3ec0_0000_0000_0000)

abbrev pub is_right : Line → Bool
is_right l = answers l.question l.answer
