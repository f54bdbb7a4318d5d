-- The plane by history, the identifier and the slots: read from the taken events alone. They look at no record and at no row.
use Rattle.std.specs.Prelude.{ℕ, Bool, true, cond, ◌&&◌, List, [], ◌∷◌, eqb}
use Rattle.records.specs.declared.events.Event.{Event}
use Rattle.records.specs.declared.events.Event.TheVariants.{SetupRequest, SetupResponse, ReleaseRequest, TxRequest, DCallProceeding, DAlert, DConnect, DConnectAcknowledge, DSetup, DInfo, DTxGranted, DTxCeased, DTxInterrupt, DTxWait, DTxContinue, DCallRestore, DDisconnect, DRelease, ReportSent, ReportFailed, Break, Resume, Expiry}

-- what the rule remembers: the plane, the mode, and the plane before the last D-TX WAIT
pub record History : Type 0 where
  pub plane : ℕ
  pub mode : ℕ
  pub before : ℕ

abbrev pub history : ℕ → ℕ → ℕ → History
history p d b = record { plane = p; mode = d; before = b }

-- at first off
abbrev pub at_first : History
at_first = history 4 0 4

-- grant rule G: 0 gives plane 1, or 3 in duplex; 3 gives 2; 1 and 2 give the plane that is handed in
abbrev pub granted : ℕ → ℕ → ℕ → ℕ
granted g d p = cond (eqb g 0) (cond (eqb d 1) 3 1) (cond (eqb g 3) 2 p)

abbrev pub switched : History → ℕ → History
switched h p = history p h.mode h.before

unfoldable pub note : History → Event → History
note h (SetupRequest a d q s) = history h.plane d h.before
note h SetupResponse = h
note h ReleaseRequest = switched h 4
note h (TxRequest k) = switched h (cond (eqb k 0 && eqb h.plane 1) 4 h.plane)
note h (DCallProceeding i) = h
note h (DAlert i) = h
note h (DConnect i g d o s) = history (granted g d 4) d h.before
note h (DConnectAcknowledge i g o) = switched h (granted g h.mode 4)
note h (DSetup i a d) = history h.plane d h.before
note h (DInfo i r o d s) = history (cond (eqb d h.mode) h.plane 4) d h.before
note h (DTxGranted i g) = switched h (granted g h.mode h.plane)
note h (DTxCeased i) = switched h 4
note h (DTxInterrupt i g) = switched h (cond (eqb g 3) 2 4)
note h (DTxWait i) = history 4 h.mode h.plane
note h (DTxContinue i k) = switched h (cond (eqb k 1) h.before 4)
note h (DCallRestore i g r o) = switched h (granted g h.mode h.plane)
note h (DDisconnect i) = switched h 4
note h (DRelease i) = switched h 4
note h ReportSent = h
note h ReportFailed = h
note h Break = switched h 4
note h Resume = h
note h (Expiry n) = switched h 4

unfoldable pub reads : History → List Event → History
reads h [] = h
reads h (e ∷ es) = reads (note h e) es

-- the plane that the rule reads from some taken events
unfoldable pub plane_by_history : List Event → ℕ
plane_by_history es = (reads at_first es).plane

-- the identifier that the network has given to the call: a call that this side begins has none at first
unfoldable pub note_id : ℕ → Event → ℕ
note_id h (SetupRequest a d q s) = 0
note_id h SetupResponse = h
note_id h ReleaseRequest = h
note_id h (TxRequest k) = h
note_id h (DCallProceeding i) = i
note_id h (DAlert i) = i
note_id h (DConnect i g d o s) = i
note_id h (DConnectAcknowledge i g o) = h
note_id h (DSetup i a d) = i
note_id h (DInfo i r o d s) = h
note_id h (DTxGranted i g) = h
note_id h (DTxCeased i) = h
note_id h (DTxInterrupt i g) = h
note_id h (DTxWait i) = h
note_id h (DTxContinue i k) = h
note_id h (DCallRestore i g r o) = h
note_id h (DDisconnect i) = h
note_id h (DRelease i) = h
note_id h ReportSent = h
note_id h ReportFailed = h
note_id h Break = h
note_id h Resume = h
note_id h (Expiry n) = h

unfoldable pub reads_id : ℕ → List Event → ℕ
reads_id h [] = h
reads_id h (e ∷ es) = reads_id (note_id h e) es

-- the identifier that the last of some taken events to bring one brought to the present call
unfoldable pub id_by_history : List Event → ℕ
id_by_history es = reads_id 0 es

-- the slots that an event carries, 0 where it carries none
unfoldable pub slots_in : Event → ℕ
slots_in (SetupRequest a d q s) = s
slots_in SetupResponse = 0
slots_in ReleaseRequest = 0
slots_in (TxRequest k) = 0
slots_in (DCallProceeding i) = 0
slots_in (DAlert i) = 0
slots_in (DConnect i g d o s) = s
slots_in (DConnectAcknowledge i g o) = 0
slots_in (DSetup i a d) = 0
slots_in (DInfo i r o d s) = s
slots_in (DTxGranted i g) = 0
slots_in (DTxCeased i) = 0
slots_in (DTxInterrupt i g) = 0
slots_in (DTxWait i) = 0
slots_in (DTxContinue i k) = 0
slots_in (DCallRestore i g r o) = 0
slots_in (DDisconnect i) = 0
slots_in (DRelease i) = 0
slots_in ReportSent = 0
slots_in ReportFailed = 0
slots_in Break = 0
slots_in Resume = 0
slots_in (Expiry n) = 0

-- the carried slots, and else those of before
abbrev pub or_before : ℕ → ℕ → ℕ
or_before s before = cond (eqb s 0) before s

-- the slots of the call: a call begins with SETUP request or D-SETUP, and with 1 where that carries none
unfoldable pub note_slots : ℕ → Event → ℕ
note_slots h (SetupRequest a d q s) = or_before s 1
note_slots h SetupResponse = h
note_slots h ReleaseRequest = h
note_slots h (TxRequest k) = h
note_slots h (DCallProceeding i) = h
note_slots h (DAlert i) = h
note_slots h (DConnect i g d o s) = or_before s h
note_slots h (DConnectAcknowledge i g o) = h
note_slots h (DSetup i a d) = 1
note_slots h (DInfo i r o d s) = or_before s h
note_slots h (DTxGranted i g) = h
note_slots h (DTxCeased i) = h
note_slots h (DTxInterrupt i g) = h
note_slots h (DTxWait i) = h
note_slots h (DTxContinue i k) = h
note_slots h (DCallRestore i g r o) = h
note_slots h (DDisconnect i) = h
note_slots h (DRelease i) = h
note_slots h ReportSent = h
note_slots h ReportFailed = h
note_slots h Break = h
note_slots h Resume = h
note_slots h (Expiry n) = h

unfoldable pub reads_slots : ℕ → List Event → ℕ
reads_slots h [] = h
reads_slots h (e ∷ es) = reads_slots (note_slots h e) es

-- the slots that the last of some taken events to carry some gave to the present call, 1 where none did
unfoldable pub slots_by_history : List Event → ℕ
slots_by_history es = reads_slots 1 es

-- none of some events carries slots
unfoldable pub carry_none : List Event → Bool
carry_none [] = true
carry_none (e ∷ es) = eqb (slots_in e) 0 && carry_none es
