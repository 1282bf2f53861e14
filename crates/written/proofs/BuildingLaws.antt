-- Laws of the calls that make a device known: what each does to a station on whose ports no request waits.
use Prim.Native.Nat.{ℕ, ◌/◌, ◌%◌, ◌≤◌, ◌<◌}
use Rattle.std.specs.Prelude.{◌≡◌, Bool, true, not, ◌&&◌, leb, ltb, length, set, replicate, Option, Some, None}
use Rattle.std.proofs.Math.Path.{refl, ap}
use Rattle.std.proofs.Common.{sym, ◌∙◌, subst, arith, length-set, set-set}
use Rattle.std.proofs.Math.Bool.{false, cond}
use mathlib.Core.List.{List, [], ◌∷◌, ◌++◌}
use Rattle.std.proofs.Math.Dec.{eqb}
use Rattle.std.proofs.Math.Seq.{get_or-set_same, get_or-set_other}
use borrow.Author.Tests.{le-leb, ne_eqb}
use Rattle.report.specs.Refusals.{no_such_port}
use Rattle.report.specs.Ports.{is_device, receiver}
use Rattle.report.specs.Sizes.{hidpp_start, dj_start, length_of, joined2, joined4, hidpp_short}
use Rattle.report.specs.Reading as reading
use Rattle.report.specs.Reading.{Report, report_from, read_rule, family_rule, hidpp_rule, dj_rule}
use Rattle.report.specs.declared.FeatureIndex.{FeatureIndex}
use Rattle.frame.specs.Forbidden.{is_forbidden_frame}
use Rattle.frame.specs.Writing as writing
use Rattle.port.specs.declared.Port.{Port}
use Rattle.port.specs.declared.Request.{Request}
use Rattle.port.specs.declared.Version.{Version}
use Rattle.port.specs.Records.{feature_count, empty_place, fresh_port, made_fresh, with_pairing, with_version, with_features, with_serial, with_places, slot_of, feature_set, device_information, device_name, battery_status, wireless_status, known_features}
use Rattle.port.specs.Places.{first_at, sum_over}
use Rattle.port.specs.Waiting.{room_for, ended_at}
use Rattle.matching.specs.Messages.{message_of}
use Rattle.hidpp.specs.HidppRecords.{index_from, with_found_feature, after_reply}
use Rattle.hidpp.specs.HidppTaking.{reply_rule, take_hidpp}
use Rattle.dj.specs.DjTaking.{paired_rule, take_dj}
use Rattle.request.specs.Requesting.{waiting_request, request_by, request_at, with_waiting}
use Rattle.serial.specs.Serials.{Given, no_serial, serial_of, long_register, serial_register, parameter_for, given_by, serial_rule}
use Rattle.serial.proofs.GivingLaws.{given_exactly}
use Rattle.store.specs.Stores.{pad_port, IndexesFit}
use Rattle.station.specs.declared.Station.{Station}
use Rattle.station.specs.Stations.{port_count, receiver_position, position_of, no_port, port_for, with_port}
use Rattle.station.proofs.StationsLaws.{device_number, device_position, position_within, same_port}
use Rattle.station.specs.StationTaking.{stored_at, also_at, take_by, take_rule}
use Rattle.station.specs.StationCalls.{requested_at, request_rule}
use Rattle.sequence.proofs.NumbersLaws.{device_port}
use Rattle.sequence.specs.Steps.{Call, take, step, run}
use Rattle.written.specs.Building.{paired_report, short_buffer, asks, replies, version_calls, index_calls, indexes_calls, serial_answer, serial_calls}

-- one call after others
pub run_append : (st : Station) (cs ds : List Call) → run st (cs ++ ds) ≡ run (run st cs) ds
unfolding run
run_append st [] ds = refl
run_append st (c ∷ cs) ds = run_append (step st c).station cs ds

-- numbers of two and of four bytes
two_bytes : (n : ℕ) → joined2 (n % 256) (n / 256) ≡ n
two_bytes n = omega arith

four_bytes : (n : ℕ) → joined4 (n % 256) (n / 256 % 256) (n / 256 / 256 % 256) (n / 256 / 256 / 256) ≡ n
four_bytes n = omega arith

-- no index found
abbrev pub no_indexes : List FeatureIndex
no_indexes = replicate feature_count (record { 0 = 0 })

-- a device that no request waits for, asked and answered at its port
module _ (n wpid : ℕ) (serial : Option ℕ) (reports : ℕ) where
  ping_waits_law : (features : List FeatureIndex) → (request_at (pad_port wpid serial reports None features) n 0 0x11 1 (0 ∷ 0 ∷ 0 ∷ []) 0 short_buffer).port ≡ with_waiting (pad_port wpid serial reports None features) 0 (waiting_request 0 0x11 1 (0 ∷ 0 ∷ 0 ∷ []))
  unfolding request_at is_forbidden_frame request_by room_for first_at sum_over empty_place pad_port
  ping_waits_law features = refl

  ping_answered : (features : List FeatureIndex) (major minor : ℕ) → (take_hidpp (with_waiting (pad_port wpid serial reports None features) 0 (waiting_request 0 0x11 1 (0 ∷ 0 ∷ 0 ∷ []))) (message_of (report_from hidpp_start (hidpp_short ∷ n ∷ 0 ∷ 0x11 ∷ major ∷ minor ∷ 0 ∷ [])) (hidpp_short ∷ n ∷ 0 ∷ 0x11 ∷ major ∷ minor ∷ 0 ∷ []))).port ≡ pad_port wpid serial reports (Some (record { major = major; minor = minor })) features
  unfolding take_hidpp reply_rule after_reply ended_at message_of report_from first_at empty_place pad_port waiting_request with_places with_version
  ping_answered features major minor = refl

  -- GetFeature
  module _ (version : Option Version) (features : List FeatureIndex) (feature : ℕ) where
    abbrev asking : Request
    asking = waiting_request 0 0x01 1 (feature / 256 ∷ feature % 256 ∷ 0 ∷ [])

    feature_waits : eqb (feature / 256) 0 && eqb (feature % 256) 0 ≡ false → (request_at (pad_port wpid serial reports version features) n 0 0x01 1 (feature / 256 ∷ feature % 256 ∷ 0 ∷ []) 0 short_buffer).port ≡ with_waiting (pad_port wpid serial reports version features) 0 asking
    unfolding request_at is_forbidden_frame request_by room_for first_at sum_over empty_place pad_port
    feature_waits some = simp some

    feature_answered : (index : ℕ) → index ≤ 63 → ltb (slot_of feature) feature_count ≡ true → (take_hidpp (with_waiting (pad_port wpid serial reports version features) 0 asking) (message_of (report_from hidpp_start (hidpp_short ∷ n ∷ 0 ∷ 0x01 ∷ index ∷ 0 ∷ 0 ∷ [])) (hidpp_short ∷ n ∷ 0 ∷ 0x01 ∷ index ∷ 0 ∷ 0 ∷ []))).port ≡ pad_port wpid serial reports version (set features (slot_of feature) (record { 0 = index }))
    unfolding take_hidpp reply_rule after_reply with_found_feature index_from ended_at message_of report_from first_at empty_place pad_port waiting_request with_places with_features
    feature_answered index small known =
        ap found_in (two_bytes feature)
        ∙ (λ i. cond (known i) (pad_port wpid serial reports version (set features (slot_of feature) (record { 0 = cond (le-leb index 63 small i) index 0 }))) (pad_port wpid serial reports version features))
      where
        found_in : ℕ → Port
        found_in asked =
            cond (ltb (slot_of asked) feature_count)
            (pad_port wpid serial reports version (set features (slot_of asked) (record { 0 = cond (leb index 63) index 0 })))
            (pad_port wpid serial reports version features)

-- the receiver asked for a serial and answering, at its port
module _ (n serial : ℕ) where
  abbrev serial_request : Request
  serial_request = waiting_request long_register serial_register 1 (parameter_for n ∷ 0 ∷ 0 ∷ [])

  abbrev asked_receiver : Port
  asked_receiver = with_waiting fresh_port 0 serial_request

  serial_waits : (request_at fresh_port receiver long_register serial_register 1 (parameter_for n ∷ 0 ∷ 0 ∷ []) 0 short_buffer).port ≡ asked_receiver
  unfolding request_at is_forbidden_frame request_by room_for first_at sum_over empty_place fresh_port
  serial_waits = refl

  abbrev serial_report : Report
  serial_report = report_from hidpp_start (serial_answer n serial)

  read_serial : read_rule (serial_answer n serial) ≡ reading.hidpp serial_report
  unfolding read_rule family_rule hidpp_rule report_from length_of
  read_serial = refl

  serial_answered : (take_hidpp asked_receiver (message_of serial_report (serial_answer n serial))).port ≡ fresh_port
  unfolding take_hidpp reply_rule after_reply ended_at message_of report_from first_at empty_place fresh_port waiting_request with_places
  serial_answered = refl

  serial_given : is_device n ≡ true → given_by asked_receiver serial_report (serial_answer n serial) ≡ serial_of n serial
  unfolding report_from first_at empty_place fresh_port waiting_request with_places
  serial_given named =
      (given_exactly asked_receiver serial_report (serial_answer n serial) n serial).1 (record {
        receiver = refl;
        long = refl;
        byte2 = refl;
        byte3 = refl;
        named = named;
        waits = refl;
        asked = refl;
        repeated = refl;
        serial = omega arith;
      })

  serial_kept : (wpid reports : ℕ) (version : Option Version) (features : List FeatureIndex) → (serial_rule (pad_port wpid None reports version features) serial).port ≡ pad_port wpid (Some serial) reports version features
  unfolding serial_rule pad_port with_serial
  serial_kept wpid reports version features = refl

-- a device of a station whose receiver is fresh
module _ (base : Station) (n : ℕ) (named : is_device n ≡ true) (seven : length base.ports ≡ port_count) (idle : port_for base receiver ≡ fresh_port) where
  -- the station with this port for the device
  unfoldable pub with_device : Port → Station
  with_device p = with_port base (position_of n) p

  at_device : (p : Port) → port_for (with_device p) n ≡ p
  unfolding with_port with_device
  at_device p = get_or-set_same base.ports (position_of n) p no_port (subst (λ (k : ℕ). position_of n < k) (sym seven) (position_within n))

  apart : receiver_position ≡ position_of n → ⊥
  apart e =
      let h = device_number n named in
      let q = device_position n named in
      omega (arith, h.0, h.1, q.0, e)

  at_receiver : (p : Port) → port_for (with_device p) receiver ≡ fresh_port
  unfolding with_port with_device position_of
  at_receiver p = get_or-set_other base.ports (position_of n) receiver_position p no_port apart ∙ idle

  again : (p q : Port) → with_port (with_device p) (position_of n) q ≡ with_device q
  unfolding with_port with_device
  again p q = ap station (set-set base.ports (position_of n) p q)
    where
      station : List Port → Station
      station ports = record { ports = ports }

  -- it is paired
  read_pairing : (wpid reports : ℕ) → read_rule (paired_report n wpid reports) ≡ reading.dj (report_from dj_start (paired_report n wpid reports))
  unfolding read_rule family_rule dj_rule report_from length_of
  read_pairing wpid reports =
      ap (λ (b : Bool). cond (not b) (reading.refused no_such_port) (reading.dj (report_from dj_start (paired_report n wpid reports)))) named

  pub paired : (wpid reports : ℕ) → run (with_device fresh_port) (take (paired_report n wpid reports) ∷ []) ≡ with_device (pad_port wpid None reports None no_indexes)
  unfolding run step take_rule take_by take_dj paired_rule report_from made_fresh with_pairing fresh_port pad_port
  paired wpid reports =
      ap (λ (r : reading.Read). (take_by r (paired_report n wpid reports) (with_device fresh_port)).station) (read_pairing wpid reports)
      ∙ ap (λ (p : Port). with_port (with_device fresh_port) (position_of n) (take_dj p (report_from dj_start (paired_report n wpid reports)) (paired_report n wpid reports)).port) (at_device fresh_port)
      ∙ again fresh_port (pad_port (joined2 (wpid % 256) (wpid / 256)) None (joined4 (reports % 256) (reports / 256 % 256) (reports / 256 / 256 % 256) (reports / 256 / 256 / 256)) None no_indexes)
      ∙ (λ i. with_device (pad_port (two_bytes wpid i) None (four_bytes reports i) None no_indexes))

  -- a request at its port, where none waits
  asked : (p q : Port) (byte2 byte3 p0 p1 p2 : ℕ) → (request_at p n byte2 byte3 1 (p0 ∷ p1 ∷ p2 ∷ []) 0 short_buffer).port ≡ q → run (with_device p) (asks n byte2 byte3 p0 p1 p2 ∷ []) ≡ with_device q
  unfolding run step request_rule
  asked p q byte2 byte3 p0 p1 p2 e =
      let st : Station = with_device p in
      ap (λ (b : Bool). (cond (not b) (record { answer = writing.refused no_such_port; station = st; lent = short_buffer }) (requested_at st (position_of n) (request_at (port_for st n) n byte2 byte3 1 (p0 ∷ p1 ∷ p2 ∷ []) 0 short_buffer))).station) (device_port n named)
      ∙ ap (λ (x : Port). with_port st (position_of n) (request_at x n byte2 byte3 1 (p0 ∷ p1 ∷ p2 ∷ []) 0 short_buffer).port) (at_device p)
      ∙ ap (with_port st (position_of n)) e
      ∙ again p q

  -- a short reply at its port
  module _ (byte3 p0 p1 p2 : ℕ) where
    abbrev bytes : List ℕ
    bytes = hidpp_short ∷ n ∷ 0 ∷ byte3 ∷ p0 ∷ p1 ∷ p2 ∷ []

    abbrev report : Report
    report = report_from hidpp_start bytes

    read_reply : read_rule bytes ≡ reading.hidpp report
    unfolding read_rule family_rule hidpp_rule report_from length_of
    read_reply = ap (λ (b : Bool). cond (not b) (reading.refused no_such_port) (reading.hidpp report)) (device_port n named)

    gives_none : (p : Port) → given_by p report bytes ≡ no_serial
    unfolding given_by report_from
    gives_none p =
        let h = device_number n named in
        let other : eqb n receiver ≡ false = ne_eqb n receiver (λ e. omega (arith, h.1, e)) in
        simp other

    replied : (p q : Port) → (take_hidpp p (message_of report bytes)).port ≡ q → run (with_device p) (replies n 0 byte3 p0 p1 p2 ∷ []) ≡ with_device q
    unfolding run step take_rule take_by report_from
    replied p q e =
        let st : Station = with_device p in
        ap (λ (r : reading.Read). (take_by r bytes st).station) read_reply
        ∙ ap (λ (g : Given). (also_at st g (stored_at st (position_of n) (take_hidpp (port_for st n) (message_of report bytes)))).station) (gives_none (port_for st n))
        ∙ ap (λ (x : Port). with_port st (position_of n) (take_hidpp x (message_of report bytes)).port) (at_device p)
        ∙ ap (with_port st (position_of n)) e
        ∙ again p q

  module _ (wpid : ℕ) (serial : Option ℕ) (reports : ℕ) where
    -- its version is told
    pub version_told : (version : Option Version) (features : List FeatureIndex) → run (with_device (pad_port wpid serial reports None features)) (version_calls n version) ≡ with_device (pad_port wpid serial reports version features)
    unfolding run
    version_told None features = refl
    version_told (Some version) features =
        let p : Port = pad_port wpid serial reports None features in
        let q : Port = with_waiting p 0 (waiting_request 0 0x11 1 (0 ∷ 0 ∷ 0 ∷ [])) in
        ap (λ (st : Station). run st (replies n 0 0x11 version.major version.minor 0 ∷ [])) (asked p q 0 0x11 0 0 0 (ping_waits_law n wpid serial reports features))
        ∙ replied 0x11 version.major version.minor 0 q (pad_port wpid serial reports (Some version) features) (ping_answered n wpid serial reports features version.major version.minor)

    -- an index is told
    pub index_told : (version : Option Version) (features : List FeatureIndex) (feature index : ℕ) → index ≤ 63 → eqb (feature / 256) 0 && eqb (feature % 256) 0 ≡ false → ltb (slot_of feature) feature_count ≡ true → run (with_device (pad_port wpid serial reports version features)) (index_calls n feature index) ≡ with_device (pad_port wpid serial reports version (set features (slot_of feature) (record { 0 = index })))
    unfolding run
    index_told version features feature index small some known =
        let p : Port = pad_port wpid serial reports version features in
        let q : Port = with_waiting p 0 (waiting_request 0 0x01 1 (feature / 256 ∷ feature % 256 ∷ 0 ∷ [])) in
        ap (λ (st : Station). run st (replies n 0 0x01 index 0 0 ∷ [])) (asked p q 0 0x01 (feature / 256) (feature % 256) 0 (feature_waits n wpid serial reports version features feature some))
        ∙ replied 0x01 index 0 0 q (pad_port wpid serial reports version (set features (slot_of feature) (record { 0 = index }))) (feature_answered n wpid serial reports version features feature index small known)

    -- all five are
    pub indexes_told : (version : Option Version) (a b c d e : FeatureIndex) → IndexesFit (a ∷ b ∷ c ∷ d ∷ e ∷ []) → run (with_device (pad_port wpid serial reports version no_indexes)) (indexes_calls n known_features (a ∷ b ∷ c ∷ d ∷ e ∷ [])) ≡ with_device (pad_port wpid serial reports version (a ∷ b ∷ c ∷ d ∷ e ∷ []))
    unfolding run indexes_calls IndexesFit
    indexes_told version a b c d e h =
        let none : FeatureIndex = record { 0 = 0 } in
        ap (λ (st : Station). run st (indexes_calls n (device_information ∷ device_name ∷ battery_status ∷ wireless_status ∷ []) (b ∷ c ∷ d ∷ e ∷ []))) (index_told version no_indexes feature_set a.0 h.0 refl refl)
        ∙ ap (λ (st : Station). run st (indexes_calls n (device_name ∷ battery_status ∷ wireless_status ∷ []) (c ∷ d ∷ e ∷ []))) (index_told version (a ∷ none ∷ none ∷ none ∷ none ∷ []) device_information b.0 h.1.0 refl refl)
        ∙ ap (λ (st : Station). run st (indexes_calls n (battery_status ∷ wireless_status ∷ []) (d ∷ e ∷ []))) (index_told version (a ∷ b ∷ none ∷ none ∷ none ∷ []) device_name c.0 h.1.1.0 refl refl)
        ∙ ap (λ (st : Station). run st (indexes_calls n (wireless_status ∷ []) (e ∷ []))) (index_told version (a ∷ b ∷ c ∷ none ∷ none ∷ []) battery_status d.0 h.1.1.1.0 refl refl)
        ∙ index_told version (a ∷ b ∷ c ∷ d ∷ none ∷ []) wireless_status e.0 h.1.1.1.1.0 refl refl

  -- the receiver's port beside the device's
  module _ (p : Port) where
    with_receiver : Port → Station
    with_receiver q = with_port (with_device p) receiver_position q

    longer : receiver_position < length (set base.ports (position_of n) p)
    longer = omega (arith, length-set base.ports (position_of n) p, seven)

    receiver_there : (q : Port) → port_for (with_receiver q) receiver ≡ q
    unfolding with_port with_device with_receiver position_of
    receiver_there q = get_or-set_same (set base.ports (position_of n) p) receiver_position q no_port longer

    device_there : (q : Port) → port_for (with_receiver q) n ≡ p
    unfolding with_port with_device with_receiver
    device_there q =
        get_or-set_other (set base.ports (position_of n) p) receiver_position (position_of n) q no_port (λ e. apart (sym e)) ∙ at_device p

    receiver_again : (q r : Port) → with_port (with_receiver q) receiver_position r ≡ with_receiver r
    unfolding with_port with_receiver
    receiver_again q r = ap (λ (ports : List Port). record { ports = ports }) (set-set (with_device p).ports receiver_position q r)

    receiver_fresh : with_receiver fresh_port ≡ with_device p
    unfolding with_receiver position_of
    receiver_fresh = ap (with_port (with_device p) receiver_position) (sym (at_receiver p)) ∙ same_port (with_device p) receiver_position

    asked_receiver_law : (serial : ℕ) → run (with_device p) (asks receiver long_register serial_register (parameter_for n) 0 0 ∷ []) ≡ with_receiver (asked_receiver n serial)
    unfolding run step request_rule position_of with_receiver
    asked_receiver_law serial =
        ap (λ (x : Port). with_port (with_device p) receiver_position (request_at x receiver long_register serial_register 1 (parameter_for n ∷ 0 ∷ 0 ∷ []) 0 short_buffer).port) (at_receiver p)
        ∙ ap (with_port (with_device p) receiver_position) (serial_waits n serial)

    told_receiver : (serial : ℕ) → run (with_receiver (asked_receiver n serial)) (take (serial_answer n serial) ∷ []) ≡ with_device (serial_rule p serial).port
    unfolding run step take_rule take_by report_from position_of
    told_receiver serial =
        let st : Station = with_receiver (asked_receiver n serial) in
        let bytes : List ℕ = serial_answer n serial in
        let r : Report = serial_report n serial in
        ap (λ (x : reading.Read). (take_by x bytes st).station) (read_serial n serial)
        ∙ ap (λ (x : Port). (also_at st (given_by x r bytes) (stored_at st receiver_position (take_hidpp x (message_of r bytes)))).station) (receiver_there (asked_receiver n serial))
        ∙ ap (λ (g : Given). (also_at st g (stored_at st receiver_position (take_hidpp (asked_receiver n serial) (message_of r bytes)))).station) (serial_given n serial named)
        ∙ (λ i. with_port (with_port st receiver_position (serial_answered n serial i)) (position_of n) (serial_rule (device_there (asked_receiver n serial) i) serial).port)
        ∙ ap (λ (x : Station). with_port x (position_of n) (serial_rule p serial).port) (receiver_again (asked_receiver n serial) fresh_port ∙ receiver_fresh)
        ∙ again p (serial_rule p serial).port

  -- its serial is told
  pub serial_told : (wpid reports : ℕ) (version : Option Version) (features : List FeatureIndex) (serial : Option ℕ) → run (with_device (pad_port wpid None reports version features)) (serial_calls n serial) ≡ with_device (pad_port wpid serial reports version features)
  unfolding run
  serial_told wpid reports version features None = refl
  serial_told wpid reports version features (Some serial) =
      let p : Port = pad_port wpid None reports version features in
      ap (λ (st : Station). run st (take (serial_answer n serial) ∷ [])) (asked_receiver_law p serial)
      ∙ told_receiver p serial
      ∙ ap with_device (serial_kept n serial wpid reports version features)
