-- The claims of specs/Claims.antt, each proved: every input has one trace, in whatever pieces it comes. Then how the trace of an input grows.
use Prim.Native.Nat.{ℕ, zero, suc, ◌+◌, ◌≤◌, ◌<◌}
use mathlib.Core.Bool.{Bool, true, false, cond}
use mathlib.Core.Path.{◌≡◌, refl, sym, ◌∙◌, ap}
use mathlib.Core.List.{List, [], ◌∷◌, ◌++◌, append-nil, append_assoc}
use native.Mathlib.Omega.{arith}
use borrow.Author.Tests.{le-ltb, ltb-false, ne_eqb}
use lib.Dec.{ltb}
use lib.ListN.{length, take, drop, length-append, length-drop, get_or-append}
use lib.Seq.{take-append-le, drop-append-le, length-take-le}
use Rattle.std.proofs.Common.{take-append-drop}
use Rattle.records.specs.Bytes.{number}
use Rattle.callcontrol.specs.declared.call.Call.{Call}
use Rattle.callcontrol.specs.Call.{fresh_call}
use Rattle.calltrace.specs.Line.{header, line_for}
use Rattle.calltrace.specs.Block.{Ahead, ahead_in, outcome_of, Lines, none, more, Traced}
use Rattle.calltrace.specs.Trace.{Trace, end, cut, short, whole, Complete, Underway, Due, DueIf, InHandIf}
use Rattle.calltrace.specs.Claims.{Traceable, EveryTrace, OneTrace, LinesStay, LinesThenTrace, EndTraced}

-- what a whole record says of the bytes, and the other way round
record WholeIn (s : List ℕ) (size : ℕ) : Type 0 where
  two : 2 ≤ length s
  said : number 2 s 0 ≡ size
  four : 4 ≤ size
  fits : size ≤ length s

by_tests_lem : (a b d : Bool) (n m : ℕ) → cond a Ahead.Cut (cond b Ahead.Short (cond d Ahead.Cut (Ahead.Whole n))) ≡ Ahead.Whole m
    → (a ≡ false) × (b ≡ false) × (d ≡ false) × (n ≡ m)
by_tests_lem true b d n m e = cc
by_tests_lem false true d n m e = cc
by_tests_lem false false true n m e = cc
by_tests_lem false false false n m e = (refl, refl, refl, cc)

whole_in : (s : List ℕ) {size : ℕ} → ahead_in s ≡ Ahead.Whole size → WholeIn s size
unfolding ahead_in
whole_in s {size} e =
    let t = by_tests_lem (ltb (length s) 2) (ltb (number 2 s 0) 4) (ltb (length s) (number 2 s 0)) (number 2 s 0) size e in
    record {
      two = ltb-false (length s) 2 t.0;
      said = t.3;
      four = omega (arith, ltb-false (number 2 s 0) 4 t.1);
      fits = omega (arith, ltb-false (length s) (number 2 s 0) t.2);
    }

in_whole : {s : List ℕ} {size : ℕ} → WholeIn s size → ahead_in s ≡ Ahead.Whole size
unfolding ahead_in
in_whole {s} {size} w = rw (le-ltb (length s) 2 w.two, w.said, le-ltb size 4 w.four, le-ltb (length s) size w.fits)

-- a record that is whole stays so, whatever comes behind it
ahead_more : (s behind : List ℕ) {size : ℕ} → ahead_in s ≡ Ahead.Whole size → ahead_in (s ++ behind) ≡ Ahead.Whole size
unfolding number
ahead_more s behind e =
    let w = whole_in s e in
    in_whole record {
      two = rw length-append (omega arith);
      said = rw (get_or-append s behind 0 0 (omega arith), get_or-append s behind 0 1 (omega arith)) w.said;
      four = w.four;
      fits = rw length-append (omega arith);
    }

lines_more : {s : List ℕ} {c : Call} {rest : List ℕ} {d : Call} {text : List ℕ} (behind : List ℕ) → Lines s c rest d text → Lines (s ++ behind) c (rest ++ behind) d text
lines_more behind none = none
lines_more behind (more {rest} {c} {text} size p h) =
    let w = whole_in rest h in
    rw (← drop-append-le size rest behind w.fits, ← take-append-le size rest behind w.fits) (more size (lines_more behind p) (ahead_more rest behind h))

pub lines_stay : LinesStay
lines_stay s rest text behind c d p = lines_more behind p

-- lines one after the other
lines_then : {s : List ℕ} {c : Call} {mid : List ℕ} {d : Call} {t rest : List ℕ} {e : Call} {u : List ℕ} → Lines s c mid d t → Lines mid d rest e u → Lines s c rest e (t ++ u)
lines_then {t = t} p none = rw append-nil p
lines_then {t = t} p (more size q h) = rw (← append_assoc) (more size (lines_then p q) h)

-- the lines of a block that has none yet, and those of one more record
pub traced_none : {s old : List ℕ} {c : Call} → Traced s c old s c old
traced_none = record { text = []; ran = none; laid = sym (append-nil _) }

pub traced_more : {s old rest mid new behind : List ℕ} {first c d : Call} (size : ℕ) → Traced s first old rest c mid → ahead_in rest ≡ Ahead.Whole size
    → behind ≡ drop size rest → d ≡ (outcome_of c (take size rest)).call → new ≡ mid ++ line_for (outcome_of c (take size rest))
    → Traced s first old behind d new
traced_more {rest = rest} {c = c} size p h passed called laid =
    record {
      text = p.text ++ line_for (outcome_of c (take size rest));
      ran = rw (passed, called) (more size p.ran h);
      laid = rw (laid, p.laid) (simp append_assoc);
    }

lines_traced : {s : List ℕ} {c : Call} {rest : List ℕ} {d : Call} {t u : List ℕ} → Lines s c rest d t → Trace rest d u → Trace s c (t ++ u)
lines_traced none r = r
lines_traced (more size p h) r = rw append_assoc (lines_traced p (whole size h r))

pub lines_then_trace : LinesThenTrace
lines_then_trace s rest t u c d p r = lines_traced p r

-- nothing is no whole record
nothing : ahead_in [] ≡ Ahead.Cut
unfolding ahead_in
nothing = refl

same_trace : {s t u : List ℕ} {c : Call} → Trace s c t → Trace s c u → t ≡ u
same_trace end end = refl
same_trace end (cut h k) = absurd (omega arith)
same_trace end (short h) = cc nothing
same_trace end (whole size h q) = cc nothing
same_trace (cut h k) end = absurd (omega arith)
same_trace (cut h k) (cut h' k') = refl
same_trace (cut h k) (short h') = refl
same_trace (cut h k) (whole size h' q) = cc
same_trace (short h) end = cc nothing
same_trace (short h) (cut h' k) = refl
same_trace (short h) (short h') = refl
same_trace (short h) (whole size h' q) = cc
same_trace (whole size h p) end = cc nothing
same_trace (whole size h p) (cut h' k) = cc
same_trace (whole size h p) (short h') = cc
same_trace {s} {c = c} (whole size h p) (whole size' h' q) =
    let e : size' ≡ size = cc in rw e (ap (λ (l : List ℕ). line_for (outcome_of c (take size s)) ++ l) (same_trace p (rw e at q)))

pub one_trace : OneTrace
one_trace s c t u p q = same_trace p q

traced_by : (most : ℕ) → ((s : List ℕ) (c : Call) → length s < most → Traceable s c) → (s : List ℕ) (c : Call) (a : Ahead) → length s ≤ most
    → ahead_in s ≡ a → Traceable s c
traced_by most shorter [] c a k h = record { text = []; traced = end }
traced_by most shorter (x ∷ s) c Ahead.Cut k h = record { text = _; traced = cut h (omega arith) }
traced_by most shorter (x ∷ s) c Ahead.Short k h = record { text = _; traced = short h }
traced_by most shorter (x ∷ s) c (Ahead.Whole size) k h =
    let w = whole_in (x ∷ s) h in
    let less : length (drop size (x ∷ s)) < most = rw length-drop (omega arith) in
    record { text = _; traced = whole size h (shorter (drop size (x ∷ s)) (outcome_of c (take size (x ∷ s))).call less).traced }

every_shorter : (most : ℕ) (s : List ℕ) (c : Call) → length s < most → Traceable s c
every_shorter zero s c k = absurd (omega arith)
every_shorter (suc most) s c k = traced_by most (every_shorter most) s c _ (omega arith) refl

pub every_trace : EveryTrace
every_trace s c = every_shorter (suc (length s)) s c (omega arith)

pub end_traced : EndTraced
end_traced [] c h = end
end_traced (x ∷ xs) c h = rw (ne_eqb (suc (length xs)) 0 (λ e. omega arith)) (cut h (omega arith))

-- how a trace on its way grows: it begins with the header,
pub begins : Underway 0 0 [] fresh_call header
begins = record { input = []; before = []; text = []; all_read = refl; all_written = refl; ran = none; said = append-nil header }

said_too : (head text further before lines : List ℕ) → head ++ text ≡ before ++ lines → head ++ (text ++ further) ≡ before ++ (lines ++ further)
said_too head text further before lines e =
    sym (append_assoc head text further) ∙ ap (λ (l : List ℕ). l ++ further) e ∙ append_assoc before lines further

module _ {read written : ℕ} {rest : List ℕ} {c : Call} where
  -- by the lines of a block
  pub goes_on : {old left new : List ℕ} {d : Call} → Underway read written rest c old → Traced rest c old left d new → Underway read written left d new
  goes_on {old} u p =
      record {
        input = u.input;
        before = u.before;
        text = u.text ++ p.text;
        all_read = u.all_read;
        all_written = u.all_written;
        ran = lines_then u.ran p.ran;
        said = rw p.laid (said_too header u.text p.text u.before old u.said);
      }

  -- by writing what is in hand
  pub writes : {lines : List ℕ} → Underway read written rest c lines → Underway read (written + length lines) rest c []
  writes {lines} u =
      record {
        input = u.input;
        before = u.before ++ lines;
        text = u.text;
        all_read = u.all_read;
        all_written = rw length-append (omega (arith, u.all_written));
        ran = u.ran;
        said = rw append-nil u.said;
      }

  -- by input that comes
  pub reads_on : {lines : List ℕ} {came : ℕ} (behind : List ℕ) → length behind ≡ came → Underway read written rest c lines
      → Underway (read + came) written (rest ++ behind) c lines
  reads_on {lines} {came} behind e u =
      record {
        input = u.input ++ behind;
        before = u.before;
        text = u.text;
        all_read = rw length-append (omega (arith, u.all_read));
        all_written = u.all_written;
        ran = lines_more behind u.ran;
        said = u.said;
      }

  -- and by the lines of its end
  pub ends : {old text new : List ℕ} → Underway read written rest c old → Trace rest c text → new ≡ old ++ text → Complete read written new
  ends {old} {text} u r e =
      record {
        input = u.input;
        before = u.before;
        text = u.text ++ text;
        all_read = u.all_read;
        all_written = u.all_written;
        traced = lines_traced u.ran r;
        said = rw e (said_too header u.text text u.before old u.said);
      }

-- lines in hand are due, with nothing behind them
pub in_hand_due : {read written : ℕ} {rest : List ℕ} {c : Call} {lines : List ℕ} → Underway read written rest c lines → Due read written lines
in_hand_due {rest = rest} {c = c} u = record { rest = rest; call = c; after = []; underway = rw append-nil u }

-- behind the lines at the front the others are due
others_due : (complete : Bool) (read written : ℕ) (front others : List ℕ) → DueIf complete read written (front ++ others)
    → DueIf complete read (written + length front) others
others_due true read written front others p =
    record {
      input = p.input;
      before = p.before ++ front;
      text = p.text;
      all_read = p.all_read;
      all_written = rw length-append (omega (arith, p.all_written));
      traced = p.traced;
      said = p.said ∙ sym (append_assoc p.before front others);
    }
others_due false read written front others p =
    let u = p.underway in
    record {
      rest = p.rest;
      call = p.call;
      after = p.after;
      underway = record {
        input = u.input;
        before = u.before ++ front;
        text = u.text;
        all_read = u.all_read;
        all_written = rw length-append (omega (arith, u.all_written));
        ran = u.ran;
        said = u.said ∙ ap (λ (l : List ℕ). u.before ++ l) (append_assoc front others p.after) ∙ sym (append_assoc u.before front (others ++ p.after));
      };
    }

-- so is what is left of lines of which some were taken
pub left_due : (complete : Bool) (read written : ℕ) (lines : List ℕ) (done : ℕ) → done ≤ length lines → DueIf complete read written lines
    → DueIf complete read (written + done) (drop done lines)
left_due complete read written lines done h p =
    rw (length-take-le done lines h) at (others_due complete read written (take done lines) (drop done lines) (rw take-append-drop p))

-- where lines are due, so is none of them
none_due : {read written : ℕ} {lines : List ℕ} → Due read written lines → Due read written []
none_due {lines = lines} p = record { rest = p.rest; call = p.call; after = lines ++ p.after; underway = p.underway }

-- at the end all of the lines in hand are due where they are complete, else none
pub due_at_end : (complete unwritten : Bool) (read written : ℕ) (lines : List ℕ) → InHandIf complete unwritten read written lines
    → DueIf complete read written (cond complete lines [])
due_at_end true unwritten read written lines p = p
due_at_end false true read written lines p = none_due p.1
due_at_end false false read written lines p = none_due p.1
