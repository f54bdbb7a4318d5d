-- Each arm's body has the bytes of its event's letters.
use native.Mathlib.Omega.{arith}
use Rattle.records.specs.declared.events.Event.{Event}
use Rattle.records.proofs.Writing.{end, byte_then, word_then, long_then, event_line}
use Rattle.records.proofs.events.EventRecord.lay.Goals as goal

pub returns-in-SetupRequest : goal.returns-in-SetupRequest
returns-in-SetupRequest c = rw c.in-SetupRequest.is c.lay_setup_request.ensures

pub returns-in-SetupResponse : goal.returns-in-SetupResponse
returns-in-SetupResponse c = rw c.in-SetupResponse.is (rw (event_line Event.SetupResponse end) at c.lay_record.ensures)

pub returns-in-ReleaseRequest : goal.returns-in-ReleaseRequest
returns-in-ReleaseRequest c = rw c.in-ReleaseRequest.is (rw (event_line Event.ReleaseRequest end) at c.lay_record-in-ReleaseRequest.ensures)

pub returns-in-TxRequest : goal.returns-in-TxRequest
returns-in-TxRequest c = rw c.in-TxRequest.is (rw (event_line (Event.TxRequest c.in-TxRequest.go) (byte_then {v = c.in-TxRequest.go} (omega arith) end)) at c.lay_record-in-TxRequest.ensures)

pub returns-in-DCallProceeding : goal.returns-in-DCallProceeding
returns-in-DCallProceeding c = rw c.in-DCallProceeding.is (rw (event_line (Event.DCallProceeding c.in-DCallProceeding.id) (word_then c.to_le_bytes.ensures end)) at c.lay_record-in-DCallProceeding.ensures)

pub returns-in-DAlert : goal.returns-in-DAlert
returns-in-DAlert c = rw c.in-DAlert.is (rw (event_line (Event.DAlert c.in-DAlert.id) (word_then c.to_le_bytes-in-DAlert.ensures end)) at c.lay_record-in-DAlert.ensures)

pub returns-in-DConnect : goal.returns-in-DConnect
returns-in-DConnect c = rw c.in-DConnect.is c.lay_d_connect.ensures

pub returns-in-DConnectAcknowledge : goal.returns-in-DConnectAcknowledge
returns-in-DConnectAcknowledge c = rw c.in-DConnectAcknowledge.is (rw (event_line (Event.DConnectAcknowledge c.in-DConnectAcknowledge.id c.in-DConnectAcknowledge.grant c.in-DConnectAcknowledge.code) (word_then c.to_le_bytes-in-DConnectAcknowledge.ensures (byte_then {v = c.in-DConnectAcknowledge.grant} (omega arith) (byte_then {v = c.in-DConnectAcknowledge.code} (omega arith) end)))) at c.lay_record-in-DConnectAcknowledge.ensures)

pub returns-in-DSetup : goal.returns-in-DSetup
returns-in-DSetup c = rw c.in-DSetup.is (rw (event_line (Event.DSetup c.in-DSetup.id c.in-DSetup.address c.in-DSetup.mode) (word_then c.to_le_bytes-in-DSetup.ensures (long_then c.to_le_bytes-in-DSetup-2.ensures (byte_then {v = c.in-DSetup.mode} (omega arith) end)))) at c.lay_record-in-DSetup.ensures)

pub returns-in-DInfo : goal.returns-in-DInfo
returns-in-DInfo c = rw c.in-DInfo.is c.lay_d_info.ensures

pub returns-in-DTxGranted : goal.returns-in-DTxGranted
returns-in-DTxGranted c = rw c.in-DTxGranted.is (rw (event_line (Event.DTxGranted c.in-DTxGranted.id c.in-DTxGranted.grant) (word_then c.to_le_bytes-in-DTxGranted.ensures (byte_then {v = c.in-DTxGranted.grant} (omega arith) end))) at c.lay_record-in-DTxGranted.ensures)

pub returns-in-DTxCeased : goal.returns-in-DTxCeased
returns-in-DTxCeased c = rw c.in-DTxCeased.is (rw (event_line (Event.DTxCeased c.in-DTxCeased.id) (word_then c.to_le_bytes-in-DTxCeased.ensures end)) at c.lay_record-in-DTxCeased.ensures)

pub returns-in-DTxInterrupt : goal.returns-in-DTxInterrupt
returns-in-DTxInterrupt c = rw c.in-DTxInterrupt.is (rw (event_line (Event.DTxInterrupt c.in-DTxInterrupt.id c.in-DTxInterrupt.grant) (word_then c.to_le_bytes-in-DTxInterrupt.ensures (byte_then {v = c.in-DTxInterrupt.grant} (omega arith) end))) at c.lay_record-in-DTxInterrupt.ensures)

pub returns-in-DTxWait : goal.returns-in-DTxWait
returns-in-DTxWait c = rw c.in-DTxWait.is (rw (event_line (Event.DTxWait c.in-DTxWait.id) (word_then c.to_le_bytes-in-DTxWait.ensures end)) at c.lay_record-in-DTxWait.ensures)

pub returns-in-DTxContinue : goal.returns-in-DTxContinue
returns-in-DTxContinue c = rw c.in-DTxContinue.is (rw (event_line (Event.DTxContinue c.in-DTxContinue.id c.in-DTxContinue.go) (word_then c.to_le_bytes-in-DTxContinue.ensures (byte_then {v = c.in-DTxContinue.go} (omega arith) end))) at c.lay_record-in-DTxContinue.ensures)

pub returns-in-DCallRestore : goal.returns-in-DCallRestore
returns-in-DCallRestore c = rw c.in-DCallRestore.is (rw (event_line (Event.DCallRestore c.in-DCallRestore.id c.in-DCallRestore.grant c.in-DCallRestore.reset c.in-DCallRestore.code) (word_then c.to_le_bytes-in-DCallRestore.ensures (byte_then {v = c.in-DCallRestore.grant} (omega arith) (byte_then {v = c.in-DCallRestore.reset} (omega arith) (byte_then {v = c.in-DCallRestore.code} (omega arith) end))))) at c.lay_record-in-DCallRestore.ensures)

pub returns-in-DDisconnect : goal.returns-in-DDisconnect
returns-in-DDisconnect c = rw c.in-DDisconnect.is (rw (event_line (Event.DDisconnect c.in-DDisconnect.id) (word_then c.to_le_bytes-in-DDisconnect.ensures end)) at c.lay_record-in-DDisconnect.ensures)

pub returns-in-DRelease : goal.returns-in-DRelease
returns-in-DRelease c = rw c.in-DRelease.is (rw (event_line (Event.DRelease c.in-DRelease.id) (word_then c.to_le_bytes-in-DRelease.ensures end)) at c.lay_record-in-DRelease.ensures)

pub returns-in-ReportSent : goal.returns-in-ReportSent
returns-in-ReportSent c = rw c.in-ReportSent.is (rw (event_line Event.ReportSent end) at c.lay_record-in-ReportSent.ensures)

pub returns-in-ReportFailed : goal.returns-in-ReportFailed
returns-in-ReportFailed c = rw c.in-ReportFailed.is (rw (event_line Event.ReportFailed end) at c.lay_record-in-ReportFailed.ensures)

pub returns-in-Break : goal.returns-in-Break
returns-in-Break c = rw c.in-Break.is (rw (event_line Event.Break end) at c.lay_record-in-Break.ensures)

pub returns-in-Resume : goal.returns-in-Resume
returns-in-Resume c = rw c.in-Resume.is (rw (event_line Event.Resume end) at c.lay_record-in-Resume.ensures)

pub returns-in-Expiry : goal.returns-in-Expiry
returns-in-Expiry c = rw c.in-Expiry.is (rw (event_line (Event.Expiry c.in-Expiry.timer) (word_then c.to_le_bytes-in-Expiry.ensures end)) at c.lay_record-in-Expiry.ensures)
