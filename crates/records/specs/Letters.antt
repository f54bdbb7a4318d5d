-- The letters of a record's body: how many bytes each takes, and the numbers that it may stand for.
use Rattle.std.specs.Prelude.{ℕ, zero, suc, Bool, true, ◌&&◌, ◌||◌, leb, eqb}
use Rattle.records.specs.declared.letters.Byte.{Byte}
use Rattle.records.specs.declared.letters.Word.{Word}
use Rattle.records.specs.declared.letters.Long.{Long}

pub data Letter : Type 0 where
  byte : Byte → Letter
  word : Word → Letter
  long : Long → Letter

-- how many bytes a letter takes
abbrev pub width : Letter → ℕ
width (byte b) = 1
width (word w) = 2
width (long a) = 4

-- the letters as the paper prints them; one with an exception to its range is a letter of its own: i₀ may be 0, a₁ may not, o₁₆ may be 16
abbrev pub i : Letter
i = word Word.I

abbrev pub i₀ : Letter
i₀ = word Word.I0

abbrev pub n : Letter
n = word Word.N

abbrev pub a : Letter
a = long Long.A

abbrev pub a₁ : Letter
a₁ = long Long.A1

abbrev pub g : Letter
g = byte Byte.G

abbrev pub d : Letter
d = byte Byte.D

abbrev pub q : Letter
q = byte Byte.Q

abbrev pub r : Letter
r = byte Byte.R

abbrev pub k : Letter
k = byte Byte.K

abbrev pub o : Letter
o = byte Byte.O

abbrev pub o₁₆ : Letter
o₁₆ = byte Byte.O16

abbrev pub c : Letter
c = byte Byte.C

abbrev pub p : Letter
p = byte Byte.P

abbrev pub x : Letter
x = byte Byte.X

-- slots per frame, of document 02
abbrev pub s : Letter
s = byte Byte.S

-- a place of the console, of document 02
abbrev pub y : Letter
y = byte Byte.Y

-- a question's number and the verdict on it, of document 02
abbrev pub u : Letter
u = word Word.U

abbrev pub v : Letter
v = byte Byte.V

-- the letters of direct mode, of document 02: any byte, and a timer that is one of two
abbrev pub any : Letter
any = byte Byte.Any

abbrev pub n₂ : Letter
n₂ = word Word.N2

-- least ≤ v ≤ most
unfoldable pub within : ℕ → ℕ → ℕ → Bool
within least most v = leb least v && leb v most

-- one of the seven timers
unfoldable pub is_timer : ℕ → Bool
is_timer v = eqb v 301 || eqb v 302 || eqb v 303 || eqb v 306 || eqb v 308 || eqb v 310 || eqb v 311

-- one of the two timers of direct mode
unfoldable pub is_direct_timer : ℕ → Bool
is_direct_timer v = eqb v 303 || eqb v 311

-- the least and the most that a letter of one byte may stand for
pub record Span : Type 0 where
  pub least : ℕ
  pub most : ℕ

abbrev pub from : ℕ → ℕ → Span
from least most = record { least = least; most = most }

-- the range of each letter of one byte
abbrev pub span_of : Byte → Span
span_of Byte.G = from 0 3
span_of Byte.D = from 0 1
span_of Byte.Q = from 0 1
span_of Byte.R = from 0 1
span_of Byte.K = from 0 1
span_of Byte.O = from 0 15
span_of Byte.O16 = from 0 16
span_of Byte.C = from 1 4
span_of Byte.P = from 1 4
span_of Byte.X = from 0 8
span_of Byte.S = from 1 4
span_of Byte.Y = from 0 7
span_of Byte.V = from 0 2
span_of Byte.Any = from 0 255

-- the numbers that a letter may stand for
abbrev pub fits : Letter → ℕ → Bool
fits (byte b) v = within (span_of b).least (span_of b).most v
fits (word Word.I) v = within 1 16383 v
fits (word Word.I0) v = within 0 16383 v
fits (word Word.N) v = is_timer v
fits (word Word.U) v = within 0 65535 v
fits (word Word.N2) v = is_direct_timer v
fits (long Long.A) v = within 0 16777215 v
fits (long Long.A1) v = within 1 16777215 v

-- the slots of a value that may carry none: 0 where it does not, else in the letter's range
abbrev pub slots_fit : ℕ → Bool
slots_fit zero = true
slots_fit (suc m) = fits s (suc m)
