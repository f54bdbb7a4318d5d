-- What calltrace writes for an input, and when the lines in hand are the last of it.
use Rattle.std.specs.Prelude.{ℕ, ◌+◌, ◌<◌, ◌≤◌, ◌^◌, Bool, true, false, ◌≡◌, List, [], ◌++◌, length, take, drop}
use Rattle.callcontrol.specs.declared.call.Call.{Call}
use Rattle.callcontrol.specs.Call.{fresh_call}
use Rattle.calltrace.specs.Line.{header, line_for, last_line}
use Rattle.calltrace.specs.Block.{Ahead, ahead_in, outcome_of, Lines}

-- the lines of an input, from a call record on
pub data Trace : List ℕ → Call → List ℕ → Type 0 where
  end : {c : Call} → Trace [] c []
  cut : {s : List ℕ} {c : Call} → ahead_in s ≡ Ahead.Cut → 0 < length s → Trace s c (last_line c)
  short : {s : List ℕ} {c : Call} → ahead_in s ≡ Ahead.Short → Trace s c (last_line c)
  whole : {s : List ℕ} {c : Call} {text : List ℕ} (size : ℕ) → ahead_in s ≡ Ahead.Whole size
      → Trace (drop size s) (outcome_of c (take size s)).call text → Trace s c (line_for (outcome_of c (take size s)) ++ text)

-- lines that complete a trace: with those that were written before them they are the header and the lines of the input that was read
pub record Complete (read written : ℕ) (lines : List ℕ) : Type 0 where
  pub input : List ℕ
  pub before : List ℕ
  pub text : List ℕ
  pub all_read : length input ≡ read
  pub all_written : length before ≡ written
  pub traced : Trace input fresh_call text
  pub said : header ++ text ≡ before ++ lines

-- a trace on its way: the input that was read, what was written of its lines, and what is in hand of both
pub record Underway (read written : ℕ) (rest : List ℕ) (call : Call) (lines : List ℕ) : Type 0 where
  pub input : List ℕ
  pub before : List ℕ
  pub text : List ℕ
  pub all_read : length input ≡ read
  pub all_written : length before ≡ written
  pub ran : Lines input fresh_call rest call text
  pub said : header ++ text ≡ before ++ lines

-- lines that are due: they come next in a trace on its way, whatever comes behind them
pub record Due (read written : ℕ) (lines : List ℕ) : Type 0 where
  pub rest : List ℕ
  pub call : Call
  pub after : List ℕ
  pub underway : Underway read written rest call (lines ++ after)

-- what is claimed of lines that are written: they come next, and complete the trace where they are said to
abbrev pub DueIf : (complete : Bool) → ℕ → ℕ → List ℕ → Type 0
DueIf true read written lines = Complete read written lines
DueIf false read written lines = Due read written lines

-- what is claimed of the lines in hand: they complete a trace, or they are due, and either there are some, as where a write has failed, or as
-- many bytes went by as no run has
abbrev pub InHandIf : (complete unwritten : Bool) → ℕ → ℕ → List ℕ → Type 0
InHandIf true unwritten read written lines = Complete read written lines
InHandIf false true read written lines = (0 < length lines) × Due read written lines
InHandIf false false read written lines = (2 ^ 46 ≤ read + written) × Due read written lines
