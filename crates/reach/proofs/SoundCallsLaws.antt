-- Document 01, "Ports and their records": what is sound at a port stays so by every call, by the call's cases.
use Rattle.std.specs.Prelude.{ℕ, ◌≤◌, ◌<◌, ◌≡◌, true, false, not, List, length}
use Rattle.std.proofs.Common.{sym, ◌∙◌, true≢false, arith}
use borrow.Author.Tests.{eqb-true, not-false}
use Rattle.report.proofs.ChoicesLaws.{neither, in_range_law}
use Rattle.report.specs.Ports.{in_range}
use Rattle.report.specs.Reading.{Report}
use Rattle.frame.specs.Forbidden.{is_sized, is_askable, is_forbidden_frame}
use Rattle.port.specs.declared.Port.{Port}
use Rattle.port.specs.Records.{made_fresh, request_in, with_places, with_pairing, with_serial, with_link, with_reports}
use Rattle.port.specs.Places.{is_empty, first_at}
use Rattle.port.specs.Waiting as waiting
use Rattle.port.specs.Waiting.{waiting_at, ended_at}
use Rattle.port.specs.Answers.{Result}
use Rattle.matching.specs.declared.Message.{Message}
use Rattle.hidpp.specs.HidppTaking.{named2, named3, code}
use Rattle.serial.specs.Serials.{SerialResult}
use Rattle.request.specs.Requesting.{RequestAt, max_ticks, is_forbidden, waiting_request}
use Rattle.station.specs.Stations.{receiver_position}
use Rattle.reach.specs.Sound.{SoundPort}
use Rattle.reach.proofs.SoundLaws.{sound_ended, sound_asked, Records, same, reply_records, error_records, event_records, records_sound, sound_fresh}
use Rattle.reach.specs.CallCases.{failed_place, replied_place, HidppCase, gives_failed, gives_reply, gives_stray, gives_plain, gives_event, SerialCase, keeps_none, first_serial, same_serial, other_serial, DjCase, dj_refused, radio_taken, unpairs, paired_same, paired_new, link_set, other_notice, RequestCase, request_refused, accepted, CancelCase, refused13, cancel_done}
use Rattle.reach.proofs.CallCasesLaws.{not_so}

-- 9 allows 1 to 255 ticks, and a byte 2 of 0x00 to 0x3F or 0x80 to 0x83
pub allowed : (byte2 byte3 ticks : ℕ) (params : List ℕ) → is_forbidden byte2 byte3 ticks params ≡ false → ((1 ≤ ticks) × (ticks ≤ max_ticks)) × (is_askable byte2 ≡ true)
unfolding is_forbidden_frame
allowed byte2 byte3 ticks params e =
    let h = neither (is_forbidden_frame byte2 byte3 params) (not (in_range 1 ticks max_ticks)) e in
    (in_range_law 1 ticks max_ticks (not-false _ h.1), not-false _ (neither (not (is_askable byte2)) _ (neither (not (is_sized (length params))) _ h.0).1).0)

module _ (position : ℕ) (p : Port) (s : SoundPort position p) where
  -- one request ends
  ended : (place : ℕ) (q : Port) → Records (ended_at p place) q → SoundPort position q
  unfolding ended_at with_places
  ended place q e =
      records_sound (ended_at p place) q e (record {
        receiver = s.receiver;
        unpaired = s.unpaired;
        indexes = s.indexes;
        waiting = sound_ended s.waiting place;
      })

  pub hidpp_sound : {m : Message} {r : Result} → HidppCase p m r → SoundPort position r.port
  unfolding ended_at with_places
  hidpp_sound {m} {r} (gives_failed h) =
      ended (failed_place p m) r.port (error_records (ended_at p (failed_place p m)) m.byte2.0 (named2 m) (named3 m) (code m))
  hidpp_sound {m} {r} (gives_reply h) =
      ended (replied_place p m) r.port (reply_records (ended_at p (replied_place p m)) m (request_in p.places (replied_place p m)))
  hidpp_sound (gives_stray h) = s
  hidpp_sound (gives_plain h) = s
  hidpp_sound {m} {r} (gives_event h) = records_sound p r.port (event_records p m) s

  -- a serial at its device's port
  pub serial_sound : {number : ℕ} {x : SerialResult} → SerialCase p number x → SoundPort position x.port
  unfolding with_serial with_pairing made_fresh
  serial_sound (keeps_none h) = s
  serial_sound (first_serial h e) =
      record { receiver = s.receiver; unpaired = λ q. absurd (true≢false (sym h ∙ q)); indexes = s.indexes; waiting = s.waiting }
  serial_sound (same_serial h e) = s
  serial_sound (other_serial known h e differs) =
      record {
        receiver = λ i. absurd (true≢false (sym h ∙ s.receiver i));
        unpaired = λ q. absurd (true≢false q);
        indexes = (sound_fresh position).indexes;
        waiting = (sound_fresh position).waiting;
      }

  -- the receiver has notifications 0x43 to 0x7F only
  pub dj_sound : {r : Report} {bytes : List ℕ} {x : Result} → (position ≡ receiver_position → 0x42 < r.byte2) → DjCase p r bytes x → SoundPort position x.port
  unfolding with_link with_reports with_pairing made_fresh
  dj_sound last (dj_refused h) = s
  dj_sound {x = x} last (radio_taken l u d h) = records_sound p x.port same s
  dj_sound last (unpairs e) = sound_fresh position
  dj_sound {x = x} last (paired_same e q) = records_sound p x.port same s
  dj_sound last (paired_new e q) =
      record {
        receiver = λ i. absurd (omega (arith, last i));
        unpaired = λ q. absurd (true≢false q);
        indexes = (sound_fresh position).indexes;
        waiting = (sound_fresh position).waiting;
      }
  dj_sound {x = x} last (link_set e u) = records_sound p x.port same s
  dj_sound last (other_notice l) = s

  pub request_sound : {device byte2 byte3 ticks : ℕ} {params : List ℕ} {offset : ℕ} {lent : List ℕ} {r : RequestAt} → RequestCase p device byte2 byte3 ticks params offset lent r → SoundPort position r.port
  unfolding with_places waiting_request
  request_sound (request_refused h) = s
  request_sound {device} {byte2} {byte3} {ticks} {params} (accepted f n l) =
      let h = allowed byte2 byte3 ticks params f.allowed in
      record {
        receiver = s.receiver;
        unpaired = s.unpaired;
        indexes = s.indexes;
        waiting = sound_asked s.waiting (first_at is_empty p.places) (waiting_request byte2 byte3 ticks params) (record {
          ticks = h.0.1;
          askable = λ q. h.1;
          empty = λ q. absurd (omega (arith, h.0.0, eqb-true ticks 0 q));
        }) (λ place. not_so _ (λ e. n (place, e)));
      }

  pub cancel_sound : {byte2 byte3 : ℕ} {r : waiting.CancelResult} → CancelCase p byte2 byte3 r → SoundPort position r.port
  unfolding ended_at with_places
  cancel_sound (refused13 n) = s
  cancel_sound {byte2} {byte3} {r} (cancel_done w) = ended (waiting_at p byte2 byte3) r.port same
