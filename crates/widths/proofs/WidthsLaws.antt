-- Laws of the numbers of a port: each call leaves them as wide as their fields.
use Rattle.std.specs.Prelude.{ℕ, suc, ◌≤◌, ◌<◌, ◌≡◌, refl, Bool, true, false, ◌&&◌, List, [], ◌∷◌, length, ltb, leb}
use Rattle.std.proofs.Common.{sym, ◌∙◌, ap, arith, length-set, get_or-set_same, get_or-set_other, lit<, lit≤}
use Rattle.std.proofs.Math.Path.{subst}
use Rattle.std.proofs.Math.Decide.{ℕ_discrete}
use Rattle.report.proofs.ChoicesLaws.{by_case}
use Rattle.report.specs.Ports.{device_count}
use Rattle.report.specs.Sizes.{byte}
use Rattle.report.specs.Reading.{Report}
use Rattle.port.specs.declared.Port.{Port}
use Rattle.port.specs.declared.Request.{Request}
use Rattle.port.specs.Records.{max_index, feature_count, battery_status, wireless_status, slot_of, feature_at, fresh_port, made_fresh, request_in, with_version, with_battery, with_features, with_link, with_places, with_pairing, with_serial, with_reports}
use Rattle.port.specs.Waiting as waiting
use Rattle.port.specs.Waiting.{ended_at}
use Rattle.port.specs.Answers.{Result}
use Rattle.report.specs.declared.FeatureIndex.{FeatureIndex}
use Rattle.matching.specs.declared.Message.{Message}
use Rattle.matching.specs.Messages.{message_of}
use Rattle.matching.specs.Matching.{is_ping}
use Rattle.hidpp.specs.HidppRecords.{max_level, is_get_feature, is_battery_reply, is_version1, is_event0, asked_feature, with_found_feature, with_battery_from, after_reply, after_error, after_battery_event, after_wireless_event, after_event}
use Rattle.hidpp.specs.HidppTaking.{named2, named3, code}
use Rattle.serial.specs.Serials.{SerialResult}
use Rattle.request.specs.Requesting.{RequestAt}
use Rattle.store.specs.Stores.{IndexesFit, PadFits, StoredDevice}
use Rattle.keeping.specs.Keeping.{Storable}
use Rattle.keeping.proofs.ReadingLaws.{reads_exactly, unpaired_fresh}
use Rattle.keeping.proofs.KeepingLaws as keeping
use Rattle.station.specs.declared.Station.{Station}
use Rattle.station.specs.Stations.{port_count, position_of, no_port, port_at, port_for, with_port}
use Rattle.station.proofs.StationsLaws.{position_within}
use Rattle.station.specs.StationCalls.{ticked_port}
use Rattle.sequence.specs.Starts.{Start, restored}
use Rattle.sequence.specs.Steps.{Call, Outcome, step, run}
use Rattle.sequence.proofs.IndependenceLaws.{ticked_at}
use Rattle.reach.specs.Sound.{Reached}
use Rattle.reach.specs.CallCases.{failed_place, replied_place, replied_port, HidppCase, gives_failed, gives_reply, gives_stray, gives_plain, gives_event, SerialCase, keeps_none, first_serial, same_serial, other_serial, DjCase, dj_refused, radio_taken, unpairs, paired_same, paired_new, link_set, other_notice, RequestCase, request_refused, accepted, CancelCase, refused13, cancel_done, StepCase, unread, list_empty, hidpp_at_port, serial_at_port, dj_at_port, request5, request_at_port, cancel5, cancel_at_port, tick_all_ports, write_only, restore_store, restore_other, restore_broken}
use Rattle.reach.proofs.CallCasesLaws.{step_case}
use Rattle.reach.proofs.StartLaws.{start_port}
use Rattle.reach.proofs.StepLaws.{all_placed, next_reached, reached_start, reached_run}
use Rattle.widths.specs.Widths.{ReadsBytes, AllRead, WidePort, Wide, StoresReadBack}

wide_fresh : WidePort fresh_port
unfolding fresh_port
wide_fresh = record { model = lit< tt; told = tt; types = lit< tt; spoken = tt }

wide_battery : (p : Port) → WidePort p → (m : Message) → WidePort (with_battery_from p m.first)
unfolding with_battery_from with_battery
wide_battery p w m =
    by_case WidePort (leb m.first.0 max_level && leb m.first.1 max_level) (λ e. w) (λ e. w)

wide_reply : (p : Port) → WidePort p → (m : Message) (r : Request) → m.first.0 < 256 → m.first.1 < 256 → WidePort (after_reply p m r)
unfolding after_reply with_version with_found_feature with_features
wide_reply p w m r h l =
    by_case WidePort (is_ping m.byte2.0 m.byte3) (λ e. record { model = w.model; told = w.told; types = w.types; spoken = (omega arith, omega arith) })
    (λ e. by_case WidePort (is_get_feature m.byte2.0 m.byte3)
    (λ q. by_case WidePort (ltb (slot_of (asked_feature r)) feature_count) (λ z. w) (λ z. w))
    (λ q. by_case WidePort (is_battery_reply p m) (λ z. wide_battery p w m) (λ z. w)))

wide_error : (p : Port) → WidePort p → (kind byte2 byte3 code : ℕ) → WidePort (after_error p kind byte2 byte3 code)
unfolding after_error with_version
wide_error p w kind byte2 byte3 code =
    by_case WidePort (is_version1 kind byte2 byte3 code) (λ e. record { model = w.model; told = w.told; types = w.types; spoken = (lit≤ tt, lit≤ tt) }) (λ e. w)

wide_event : (p : Port) → WidePort p → (m : Message) → WidePort (after_event p m)
unfolding after_event after_wireless_event after_battery_event with_link
wide_event p w m = by_case WidePort (is_event0 (after_battery_event p m) wireless_status m) (λ e. battery) (λ e. battery)
  where
    battery : WidePort (after_battery_event p m)
    battery = by_case WidePort (is_event0 p battery_status m) (λ e. wide_battery p w m) (λ e. w)

wide_ended : (p : Port) → WidePort p → (place : ℕ) → WidePort (ended_at p place)
unfolding ended_at with_places
wide_ended p w place = w

wide_hidpp : (p : Port) → WidePort p → (m : Message) → m.first.0 < 256 → m.first.1 < 256 → {x : Result} → HidppCase p m x → WidePort x.port
wide_hidpp p w m h l (gives_failed e) =
    wide_error (ended_at p (failed_place p m)) (wide_ended p w (failed_place p m)) m.byte2.0 (named2 m) (named3 m) (code m)
wide_hidpp p w m h l (gives_reply e) =
    wide_reply (ended_at p (replied_place p m)) (wide_ended p w (replied_place p m)) m (request_in p.places (replied_place p m)) h l
wide_hidpp p w m h l (gives_stray e) = w
wide_hidpp p w m h l (gives_plain e) = w
wide_hidpp p w m h l (gives_event e) = wide_event p w m

wide_serial : (p : Port) → WidePort p → (number : ℕ) → number < 4294967296 → {x : SerialResult} → SerialCase p number x → WidePort x.port
unfolding with_serial with_pairing made_fresh fresh_port
wide_serial p w number h (keeps_none e) = w
wide_serial p w number h (first_serial e q) = record { model = w.model; told = h; types = w.types; spoken = w.spoken }
wide_serial p w number h (same_serial e q) = w
wide_serial p w number h (other_serial known e q z) = record { model = w.model; told = h; types = w.types; spoken = tt }

wide_dj : (p : Port) → WidePort p → (r : Report) (bytes : List ℕ) → ((i : ℕ) → byte bytes i < 256) → {x : Result} → DjCase p r bytes x → WidePort x.port
unfolding with_link with_reports with_pairing made_fresh fresh_port
wide_dj p w r bytes h (dj_refused e) = w
wide_dj p w r bytes h (radio_taken e q z n) = w
wide_dj p w r bytes h (unpairs e) = wide_fresh
wide_dj p w r bytes h (paired_same e q) =
    record { model = w.model; told = w.told; types = omega (arith, h 6, h 7, h 8, h 9); spoken = w.spoken }
wide_dj p w r bytes h (paired_new e q) =
    record { model = omega (arith, h 4, h 5); told = tt; types = omega (arith, h 6, h 7, h 8, h 9); spoken = tt }
wide_dj p w r bytes h (link_set e q) = w
wide_dj p w r bytes h (other_notice e) = w

wide_request : (p : Port) → WidePort p → {device byte2 byte3 ticks : ℕ} {params : List ℕ} {offset : ℕ} {lent : List ℕ} {x : RequestAt} → RequestCase p device byte2 byte3 ticks params offset lent x → WidePort x.port
unfolding with_places
wide_request p w (request_refused e) = w
wide_request p w (accepted e q z) = w

wide_cancel : (p : Port) → WidePort p → {byte2 byte3 : ℕ} {x : waiting.CancelResult} → CancelCase p byte2 byte3 x → WidePort x.port
unfolding ended_at with_places
wide_cancel p w (refused13 e) = w
wide_cancel p w (cancel_done e) = w

wide_ticked : (p : Port) → WidePort p → WidePort (ticked_port p)
unfolding ticked_port with_places
wide_ticked p w = w

-- a port as a store has it
wide_stored : (p : Port) → StoredDevice p → WidePort p
wide_stored p s = go p.paired refl
  where
    go : (b : Bool) → p.paired ≡ b → WidePort p
    go true e =
        let f = s.fits e in
        record { model = f.model; told = f.told; types = f.types; spoken = f.spoken }
    go false e = subst WidePort (sym (unpaired_fresh p s e)) wide_fresh

pub wide_start : {st : Station} → Start st → Wide st
wide_start {st} begun position h = wide_stored (port_at st position) (start_port begun position h).0

-- one port changed
wide_with : (st : Station) → length st.ports ≡ port_count → Wide st → (position : ℕ) (q : Port) → WidePort q → Wide (with_port st position q)
unfolding with_port
wide_with st seven w position q z i h = go (ℕ_discrete i position)
  where
    go : Dec (i ≡ position) → WidePort (port_at (with_port st position q) i)
    go (yes e) =
        subst WidePort (sym (ap (λ (k : ℕ). port_at (with_port st position q) k) e ∙ get_or-set_same st.ports position q no_port (omega (arith, e, h, seven)))) z
    go (no e) = subst WidePort (sym (get_or-set_other st.ports position i q no_port e)) (w i h)

port_count_law : (st : Station) (position : ℕ) (q : Port) → length st.ports ≡ port_count → length (with_port st position q).ports ≡ port_count
unfolding with_port
port_count_law st position q seven = length-set st.ports position q ∙ seven

module _ (st : Station) (k : Reached st) (w : Wide st) where
  wide_at : (number : ℕ) → WidePort (port_for st number)
  wide_at number = w (position_of number) (position_within number)

  case_wide : {c : Call} {o : Outcome} → ReadsBytes c → StepCase st c o → Wide o.station
  unfolding message_of
  case_wide b (unread e) = w
  case_wide b (list_empty e) = w
  case_wide b (hidpp_at_port {bytes} {r} {x} e n h) =
      wide_with st k.all w (position_of r.device) x.port (wide_hidpp (port_for st r.device) (wide_at r.device) (message_of r bytes) (b 4) (b 5) h)
  case_wide b (serial_at_port {bytes} {r} {device} {number} {x} e g h) =
      let p : Port = port_for st r.device in
      let own : WidePort (replied_port p (message_of r bytes)) = wide_reply (ended_at p (replied_place p (message_of r bytes))) (wide_ended p (wide_at r.device) (replied_place p (message_of r bytes))) (message_of r bytes) (request_in p.places (replied_place p (message_of r bytes))) (b 4) (b 5) in
      let small : number < 4294967296 = omega (arith, g.serial, b 5, b 6, b 7, b 8) in
      wide_with (with_port st (position_of r.device) (replied_port p (message_of r bytes))) (port_count_law st (position_of r.device) (replied_port p (message_of r bytes)) k.all) (wide_with st k.all w (position_of r.device) (replied_port p (message_of r bytes)) own) (position_of device) x.port (wide_serial (port_for st device) (wide_at device) number small h)
  case_wide b (dj_at_port {bytes} {r} {x} e h) =
      wide_with st k.all w (position_of r.device) x.port (wide_dj (port_for st r.device) (wide_at r.device) r bytes b h)
  case_wide b (request5 e) = w
  case_wide b (request_at_port {device} {x = x} e h) =
      wide_with st k.all w (position_of device) x.port (wide_request (port_for st device) (wide_at device) h)
  case_wide b (cancel5 e) = w
  case_wide b (cancel_at_port {device} {x = x} e h) =
      wide_with st k.all w (position_of device) x.port (wide_cancel (port_for st device) (wide_at device) h)
  case_wide b tick_all_ports = λ i h. subst WidePort (sym (ticked_at st i)) (wide_ticked (port_at st i) (w i h))
  case_wide b write_only = w
  case_wide b (restore_store text ports h) = wide_start (restored text ports ((reads_exactly text ports).1 h))
  case_wide b (restore_other text h) = w
  case_wide b (restore_broken text line h) = w

wide_run : (st : Station) (cs : List Call) → Reached st → Wide st → AllRead cs → Wide (run st cs)
unfolding run AllRead
wide_run st [] k w b = w
wide_run st (c ∷ cs) k w b =
    wide_run (step st c).station cs (next_reached st k c) (case_wide st k w b.0 (step_case st (all_placed k) c)) b.1

-- indexes, slot by slot
indexes_fit : (features : List FeatureIndex) → ((slot : ℕ) → feature_at features slot ≤ max_index) → IndexesFit features
unfolding IndexesFit
indexes_fit [] h = tt
indexes_fit (index ∷ features) h = (h 0, indexes_fit features (λ slot. h (suc slot)))

pub stores : (st : Station) → Reached st → Wide st → Storable st.ports
stores st k w =
    keeping.storable_at st.ports no_port k.all ((k.each device_count (lit< tt)).receiver refl) (λ position h e. pad position h e)
  where
    pad : (position : ℕ) → position < device_count → (port_at st position).paired ≡ true → PadFits (port_at st position)
    pad position h e =
        let s = (k.each position (omega (arith, h))).indexes in
        let v = w position (omega (arith, h)) in
        record {
          model = v.model;
          told = v.told;
          types = v.types;
          spoken = v.spoken;
          all = s.all;
          indexes = indexes_fit (port_at st position).features s.each;
        }

pub reads_back : StoresReadBack
reads_back =
    record {
      wide = λ st begun cs b. wide_run st cs (reached_start begun) (wide_start begun) b;
      storable = λ st begun cs b. stores (run st cs) (reached_run st cs (reached_start begun)) (wide_run st cs (reached_start begun) (wide_start begun) b);
      read_back = λ st begun cs b. keeping.read_back (run st cs).ports (stores (run st cs) (reached_run st cs (reached_start begun)) (wide_run st cs (reached_start begun) (wide_start begun) b));
    }
