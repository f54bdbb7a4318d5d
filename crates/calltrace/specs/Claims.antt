-- What is claimed of traces, as types. proofs/Traces.antt has a proof of each.
use Rattle.std.specs.Prelude.{ℕ, ◌≡◌, List, ◌++◌, length}
use Rattle.callcontrol.specs.declared.call.Call.{Call}
use Rattle.calltrace.specs.Line.{end_lines}
use Rattle.calltrace.specs.Block.{Ahead, ahead_in, Lines}
use Rattle.calltrace.specs.Trace.{Trace}

-- every input has a trace, from every call record
pub record Traceable (s : List ℕ) (c : Call) : Type 0 where
  pub text : List ℕ
  pub traced : Trace s c text

abbrev pub EveryTrace : Type 0
EveryTrace = (s : List ℕ) (c : Call) → Traceable s c

-- and no two: the lines of an input are determined
abbrev pub OneTrace : Type 0
OneTrace = (s : List ℕ) (c : Call) (t u : List ℕ) → Trace s c t → Trace s c u → t ≡ u

-- in whatever pieces it comes: the lines of whole records stay the same when more input comes behind,
abbrev pub LinesStay : Type 0
LinesStay =
    (s rest text behind : List ℕ) (c d : Call) → Lines s c rest d text → Lines (s ++ behind) c (rest ++ behind) d text

-- and those of a part, followed by the trace of what is left, are the trace of the whole
abbrev pub LinesThenTrace : Type 0
LinesThenTrace = (s rest t u : List ℕ) (c d : Call) → Lines s c rest d t → Trace rest d u → Trace s c (t ++ u)

-- at the end of the input the bytes left of a record that is not whole have one line, and no bytes have none
abbrev pub EndTraced : Type 0
EndTraced = (rest : List ℕ) (c : Call) → ahead_in rest ≡ Ahead.Cut → Trace rest c (end_lines (length rest) c)
