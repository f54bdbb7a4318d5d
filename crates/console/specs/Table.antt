-- The table: a call record for each of eight places, and what makes it sound.
use Rattle.std.specs.Prelude.{ℕ, suc, Bool, true, false, cond, not, ◌&&◌, ◌||◌, List, [], ◌∷◌, leb, eqb, length, get_or}
use Rattle.callcontrol.specs.declared.call.State.{State}
use Rattle.callcontrol.specs.declared.call.Path.{Path}
use Rattle.callcontrol.specs.declared.call.Call.{Call}
use Rattle.callcontrol.specs.Call.{fresh_call, is_idle, sound}

-- what stands behind the last place: nothing reads it
abbrev pub no_call : Call
no_call =
    record {
      state = State.Idle;
      id = 0;
      address = 0;
      mode = 0;
      asked = 0;
      sent = 0;
      path = Path.Up;
      plane = 0;
      kept = 0;
      code = 0;
      slots = 0;
      timers = [];
    }

-- eight fresh records
abbrev pub fresh_table : List Call
fresh_table = fresh_call ∷ fresh_call ∷ fresh_call ∷ fresh_call ∷ fresh_call ∷ fresh_call ∷ fresh_call ∷ fresh_call ∷ []

-- the record at a place
abbrev pub call_at : List Call → ℕ → Call
call_at calls k = get_or calls k no_call

-- outside IDLE with an identifier; 0 stands for none
unfoldable pub holds : ℕ → Call → Bool
holds i c = not (is_idle c) && eqb c.id i

-- two records that hold one identifier above 0, or are outside IDLE and hold none
unfoldable pub alike : Call → Call → Bool
alike c d = eqb c.id d.id && (leb 1 c.id || not (is_idle c) && not (is_idle d))

abbrev pub some? : (Call → Bool) → List Call → Bool
some? p [] = false
some? p (c ∷ cs) = p c || some? p cs

abbrev pub every? : (Call → Bool) → List Call → Bool
every? p [] = true
every? p (c ∷ cs) = p c && every? p cs

-- no two places are alike
abbrev pub apart : List Call → Bool
apart [] = true
apart (c ∷ cs) = not (some? (alike c) cs) && apart cs

-- eight places, each record sound, no two alike
unfoldable pub table_sound : List Call → Bool
table_sound calls = eqb (length calls) 8 && (every? sound calls && apart calls)

-- the lowest place of which something holds, and the number of places where it holds of none
abbrev pub lowest : (Call → Bool) → List Call → ℕ
lowest p [] = 0
lowest p (c ∷ cs) = cond (p c) 0 (suc (lowest p cs))
