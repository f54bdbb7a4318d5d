-- The verbs that compute on any draft, under one name: `unfolding verbs` opens them all. `grant`, `grant_or_off` and `restart` ask about
-- numbers and are not among them.
use Rattle.callcontrol.specs.Draft.{draft, no_row, go, on_path, store_id, store_address, store_mode, store_asked, store_sent, store_code, store_slots, keep, stop, stop_all, start, expired, same_plane, plane, off, cancel, say, tell, tell_modified, over, release}

unfoldable pub verbs : Unit {0}
unfolding draft no_row go on_path store_id store_address store_mode store_asked store_sent store_code store_slots keep stop stop_all start expired same_plane plane off cancel say tell tell_modified over release
verbs = tt
