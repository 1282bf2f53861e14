-- Laws of the stations that calls reach: each that a store restores is one.
use Prim.Native.Nat.{ℕ, zero, suc, ◌+◌, ◌/◌, ◌%◌, ◌≤◌, ◌<◌}
use Rattle.std.specs.Prelude.{◌≡◌, Bool, true, false, cond, replicate, Option, Some, None}
use Rattle.std.proofs.Math.Path.{refl, sym, ap}
use Rattle.std.proofs.Common.{◌∙◌, subst, length-append, le-leb}
use mathlib.Core.List.{List, [], ◌∷◌, ◌++◌, append_assoc, append-nil}
use native.Mathlib.Omega.{arith}
use Rattle.std.proofs.Math.ListN.{length, get_or, drop, length-replicate, get_or-replicate, drop_of_length-le}
use Rattle.std.proofs.lemmas.List.{set_at}
use Rattle.std.proofs.Math.Seq.{get_or-append-add}
use Rattle.report.specs.Refusals.{no_room}
use Rattle.report.specs.Ports.{device_count, is_device, receiver}
use Rattle.report.specs.Sizes.{byte}
use Rattle.report.specs.declared.FeatureIndex.{FeatureIndex}
use Rattle.frame.specs.Writing.{WriteOutcome, refused, wrote, fits_at, pasted, frame_at}
use Rattle.port.specs.declared.Port.{Port}
use Rattle.port.specs.declared.Version.{Version}
use Rattle.port.specs.Records.{feature_count, fresh_port, known_features}
use Rattle.scan.specs.Exact.{SerialFits, VersionFits}
use Rattle.serial.specs.Serials.{long_register, serial_register, parameter_for}
use Rattle.store.specs.Stores.{store_text, store_rule, pad_port, IndexesFit, PadFits, StoredDevice, AllStored, Store}
use Rattle.keeping.specs.Lines.{IsStore}
use Rattle.keeping.proofs.ReadingLaws.{unpaired_fresh}
use Rattle.keeping.proofs.KeepingLaws.{kept_paired, keeping}
use Rattle.station.specs.declared.Station.{Station}
use Rattle.station.specs.Stations.{port_count, receiver_position, position_of, no_port, port_for, with_port, fresh_station}
use Rattle.station.proofs.StationsLaws.{device_position}
use Rattle.sequence.specs.Starts.{Start, fresh}
use Rattle.sequence.specs.Steps.{Call, take, request, cancel, tick, write, restore, store, step, run}
use Rattle.widths.specs.Widths.{ReadsBytes, AllRead}
use Rattle.widths.proofs.WidthsLaws.{reads_back}
use Rattle.written.specs.Building.{paired_report, asks, replies, version_calls, index_calls, indexes_calls, serial_calls, device_calls, devices_calls, AllBytes, TakesOrAsks, AllTakeOrAsk}
use Rattle.written.proofs.BuildingLaws.{run_append, no_indexes, with_device, paired, version_told, indexes_told, serial_told}
use Rattle.written.specs.Written.{Built, WrittenBy, AllWritten}

module _ (base : Station) (n : ℕ) (named : is_device n ≡ true) (seven : length base.ports ≡ port_count) (idle : port_for base receiver ≡ fresh_port) where
  abbrev at : Port → Station
  at p = with_device base n named seven idle p

  -- five indexes
  all_indexes : (wpid reports : ℕ) (version : Option Version) (features : List FeatureIndex) → length features ≡ feature_count → IndexesFit features → run (at (pad_port wpid None reports version no_indexes)) (indexes_calls n known_features features) ≡ at (pad_port wpid None reports version features)
  all_indexes wpid reports version (a ∷ b ∷ c ∷ d ∷ e ∷ []) h fits = indexes_told base n named seven idle wpid None reports version a b c d e fits
  all_indexes wpid reports version [] h fits = absurd (omega (arith, h))
  all_indexes wpid reports version (a ∷ []) h fits = absurd (omega (arith, h))
  all_indexes wpid reports version (a ∷ b ∷ []) h fits = absurd (omega (arith, h))
  all_indexes wpid reports version (a ∷ b ∷ c ∷ []) h fits = absurd (omega (arith, h))
  all_indexes wpid reports version (a ∷ b ∷ c ∷ d ∷ []) h fits = absurd (omega (arith, h))
  all_indexes wpid reports version (a ∷ b ∷ c ∷ d ∷ e ∷ f ∷ features) h fits = absurd (omega (arith, h))

  -- all that is known of a device is told
  pad_told : (wpid reports : ℕ) (serial : Option ℕ) (version : Option Version) (features : List FeatureIndex) → length features ≡ feature_count → IndexesFit features → run (at fresh_port) (take (paired_report n wpid reports) ∷ (version_calls n version ++ (indexes_calls n known_features features ++ serial_calls n serial))) ≡ at (pad_port wpid serial reports version features)
  pad_told wpid reports serial version features all fits =
      run_append (at fresh_port) (take (paired_report n wpid reports) ∷ []) (version_calls n version ++ (indexes_calls n known_features features ++ serial_calls n serial))
      ∙ ap (λ (st : Station). run st (version_calls n version ++ (indexes_calls n known_features features ++ serial_calls n serial))) (paired base n named seven idle wpid reports)
      ∙ run_append (at (pad_port wpid None reports None no_indexes)) (version_calls n version) (indexes_calls n known_features features ++ serial_calls n serial)
      ∙ ap (λ (st : Station). run st (indexes_calls n known_features features ++ serial_calls n serial)) (version_told base n named seven idle wpid None reports version no_indexes)
      ∙ run_append (at (pad_port wpid None reports version no_indexes)) (indexes_calls n known_features features) (serial_calls n serial)
      ∙ ap (λ (st : Station). run st (serial_calls n serial)) (all_indexes wpid reports version features all fits)
      ∙ serial_told base n named seven idle wpid reports version features serial

  device_told : (p : Port) → StoredDevice p → run (at fresh_port) (device_calls n p) ≡ at p
  unfolding device_calls run
  device_told p h = go p.paired refl
    where
      calls : List Call
      calls = take (paired_report n p.wpid p.reports) ∷ (version_calls n p.version ++ (indexes_calls n known_features p.features ++ serial_calls n p.serial))

      go : (b : Bool) → p.paired ≡ b → run (at fresh_port) (device_calls n p) ≡ at p
      go true e =
          let f : PadFits p = h.fits e in
          ap (λ (b : Bool). run (at fresh_port) (cond b calls [])) e
          ∙ pad_told p.wpid p.reports p.serial p.version p.features f.all f.indexes
          ∙ ap at (sym (h.rest ∙ kept_paired p e))
      go false e = ap (λ (b : Bool). run (at fresh_port) (cond b calls [])) e ∙ ap at (sym (unpaired_fresh p h e))

-- one device after another: those before it are told, and those after it are fresh
abbrev station_of : List Port → Station
station_of ports = record { ports = ports }

module _ (done : List Port) (more : ℕ) (count : length done + suc more ≡ device_count) where
  abbrev rest : List Port
  rest = replicate (suc more) fresh_port

  abbrev before : Station
  before = station_of (done ++ (fresh_port ∷ rest))

  abbrev number : ℕ
  number = suc (length done)

  is_device_law : is_device number ≡ true
  is_device_law = simp (le-leb 1 number (omega arith), le-leb number device_count (omega (arith, count)))

  is_seven : length before.ports ≡ port_count
  is_seven =
      omega (arith, length-append done (fresh_port ∷ rest), length-replicate (suc more) fresh_port, count)

  is_idle : port_for before receiver ≡ fresh_port
  unfolding position_of
  is_idle =
      let e : receiver_position ≡ length done + suc more = sym count in
      ap (λ (k : ℕ). get_or (done ++ (fresh_port ∷ rest)) k no_port) e
      ∙ get_or-append-add done (fresh_port ∷ rest) (suc more) no_port
      ∙ get_or-replicate (suc more) more fresh_port no_port (omega arith)

  at_number : (p : Port) → with_device before number is_device_law is_seven is_idle p ≡ station_of (done ++ (p ∷ rest))
  unfolding with_device with_port
  at_number p =
      let q = device_position number is_device_law in
      let e : length done ≡ position_of number = omega (arith, q.0) in
      ap station_of (set_at done fresh_port rest p (position_of number) e)

  one_told : (p : Port) → StoredDevice p → run before (device_calls number p) ≡ station_of (done ++ (p ∷ rest))
  one_told p h =
      ap (λ (st : Station). run st (device_calls number p)) (sym (at_number fresh_port))
      ∙ device_told before number is_device_law is_seven is_idle p h
      ∙ at_number p

devices_told : (done devices : List Port) → length done + length devices ≡ device_count → AllStored devices → run (station_of (done ++ replicate (suc (length devices)) fresh_port)) (devices_calls (suc (length done)) devices) ≡ station_of (done ++ (devices ++ (fresh_port ∷ [])))
unfolding run devices_calls AllStored
devices_told done [] count h = refl
devices_told done (p ∷ devices) count h =
    let rest : List Port = replicate (suc (length devices)) fresh_port in
    let next : length (done ++ (p ∷ [])) ≡ suc (length done) = length-append done (p ∷ []) ∙ omega arith in
    run_append (station_of (done ++ (fresh_port ∷ rest))) (device_calls (suc (length done)) p) (devices_calls (suc (suc (length done))) devices)
    ∙ ap (λ (st : Station). run st (devices_calls (suc (suc (length done))) devices)) (one_told done (length devices) count p h.0 ∙ ap station_of (sym (append_assoc done (p ∷ []) rest)))
    ∙ ap (λ (k : ℕ). run (station_of ((done ++ (p ∷ [])) ++ rest)) (devices_calls (suc k) devices)) (sym next)
    ∙ devices_told (done ++ (p ∷ [])) devices (omega (arith, next, count)) h.1
    ∙ ap station_of (append_assoc done (p ∷ []) (devices ++ (fresh_port ∷ [])))

all_told : (devices : List Port) → length devices ≡ device_count → AllStored devices → run fresh_station (devices_calls 1 devices) ≡ station_of (devices ++ (fresh_port ∷ []))
unfolding fresh_station
all_told devices six h =
    ap (λ (k : ℕ). run (station_of (replicate (suc k) fresh_port)) (devices_calls 1 devices)) (sym six)
    ∙ devices_told [] devices (omega (arith, six)) h

-- all their numbers are bytes
bytes_append : (cs ds : List Call) → AllTakeOrAsk cs → AllTakeOrAsk ds → AllTakeOrAsk (cs ++ ds)
unfolding AllTakeOrAsk
bytes_append [] ds h k = k
bytes_append (c ∷ cs) ds h k = (h.0, bytes_append cs ds h.1 k)

unfoldable AllTwoBytes : List ℕ → Type 0
AllTwoBytes [] = Unit
AllTwoBytes (feature ∷ known) = (feature < 65536) × AllTwoBytes known

asks_bytes : (n byte2 byte3 p0 p1 p2 : ℕ) → n < 256 → byte2 < 256 → byte3 < 256 → p0 < 256 → p1 < 256 → p2 < 256 → TakesOrAsks (asks n byte2 byte3 p0 p1 p2)
unfolding TakesOrAsks AllBytes
asks_bytes n byte2 byte3 p0 p1 p2 a b c d e f =
    let zero : 0 < 256 = omega arith in
    ((a, (b, (c, (omega arith, (zero, tt))))), ((d, (e, (f, tt))), (zero, (zero, (zero, (zero, (zero, (zero, (zero, tt)))))))))

replies_bytes : (n byte2 byte3 p0 p1 p2 : ℕ) → n < 256 → byte2 < 256 → byte3 < 256 → p0 < 256 → p1 < 256 → p2 < 256 → TakesOrAsks (replies n byte2 byte3 p0 p1 p2)
unfolding TakesOrAsks AllBytes
replies_bytes n byte2 byte3 p0 p1 p2 a b c d e f = (omega arith, (a, (b, (c, (d, (e, (f, tt)))))))

module _ (n : ℕ) (small : n ≤ device_count) where
  byte_n : n < 256
  byte_n = omega (arith, small)

  zero_byte : 0 < 256
  zero_byte = omega arith

  pairing_bytes : (wpid reports : ℕ) → wpid < 65536 → reports < 4294967296 → TakesOrAsks (take (paired_report n wpid reports))
  unfolding TakesOrAsks AllBytes
  pairing_bytes wpid reports w r =
      (omega arith, (byte_n, (omega arith, (zero_byte, (omega arith, (omega (arith, w), (omega arith, (omega arith, (omega arith, (omega (arith, r), (zero_byte, (zero_byte, (zero_byte, (zero_byte, (zero_byte, tt)))))))))))))))

  version_bytes : (version : Option Version) → VersionFits version → AllTakeOrAsk (version_calls n version)
  unfolding AllTakeOrAsk
  version_bytes None h = tt
  version_bytes (Some version) h =
      (asks_bytes n 0 0x11 0 0 0 byte_n zero_byte (omega arith) zero_byte zero_byte zero_byte, (replies_bytes n 0 0x11 version.major version.minor 0 byte_n zero_byte (omega arith) (omega (arith, h.0)) (omega (arith, h.1)) zero_byte, tt))

  index_bytes : (feature index : ℕ) → feature < 65536 → index ≤ 63 → AllTakeOrAsk (index_calls n feature index)
  unfolding AllTakeOrAsk
  index_bytes feature index f h =
      (asks_bytes n 0 0x01 (feature / 256) (feature % 256) 0 byte_n zero_byte (omega arith) (omega (arith, f)) (omega arith) zero_byte, (replies_bytes n 0 0x01 index 0 0 byte_n zero_byte (omega arith) (omega (arith, h)) zero_byte zero_byte, tt))

  indexes_bytes : (features : List FeatureIndex) (known : List ℕ) → IndexesFit features → AllTwoBytes known → AllTakeOrAsk (indexes_calls n known features)
  unfolding AllTakeOrAsk indexes_calls IndexesFit AllTwoBytes
  indexes_bytes features [] h k = tt
  indexes_bytes [] (feature ∷ known) h k = tt
  indexes_bytes (index ∷ features) (feature ∷ known) h k =
      bytes_append (index_calls n feature index.0) (indexes_calls n known features) (index_bytes feature index.0 k.0 h.0) (indexes_bytes features known h.1 k.1)

  serial_bytes : (serial : Option ℕ) → SerialFits serial → AllTakeOrAsk (serial_calls n serial)
  unfolding AllTakeOrAsk TakesOrAsks AllBytes
  serial_bytes None h = tt
  serial_bytes (Some serial) h =
      let s : serial < 4294967296 = h in
      let first : parameter_for n < 256 = omega (arith, small) in
      (asks_bytes receiver long_register serial_register (parameter_for n) 0 0 (omega arith) (omega arith) (omega arith) first zero_byte zero_byte, ((omega arith, (omega arith, (omega arith, (omega arith, (first, (omega (arith, s), (omega arith, (omega arith, (omega arith, (zero_byte, (zero_byte, (zero_byte, (zero_byte, (zero_byte, (zero_byte, (zero_byte, (zero_byte, (zero_byte, (zero_byte, (zero_byte, tt)))))))))))))))))))), tt))

  device_bytes : (p : Port) → StoredDevice p → AllTakeOrAsk (device_calls n p)
  unfolding AllTakeOrAsk device_calls AllTwoBytes
  device_bytes p h = go p.paired refl
    where
      calls : List Call
      calls = version_calls n p.version ++ (indexes_calls n known_features p.features ++ serial_calls n p.serial)

      go : (b : Bool) → p.paired ≡ b → AllTakeOrAsk (cond b (take (paired_report n p.wpid p.reports) ∷ calls) [])
      go false e = tt
      go true e =
          let f : PadFits p = h.fits e in
          let known : AllTwoBytes known_features = (omega arith, (omega arith, (omega arith, (omega arith, (omega arith, tt))))) in
          (pairing_bytes p.wpid p.reports f.model f.types, bytes_append (version_calls n p.version) (indexes_calls n known_features p.features ++ serial_calls n p.serial) (version_bytes p.version f.spoken) (bytes_append (indexes_calls n known_features p.features) (serial_calls n p.serial) (indexes_bytes p.features known_features f.indexes known) (serial_bytes p.serial f.told)))

devices_bytes : (n : ℕ) (devices : List Port) → n + length devices ≤ suc device_count → AllStored devices → AllTakeOrAsk (devices_calls n devices)
unfolding AllTakeOrAsk AllStored devices_calls
devices_bytes n [] small h = tt
devices_bytes n (p ∷ devices) small h =
    bytes_append (device_calls n p) (devices_calls (suc n) devices) (device_bytes n (omega (arith, small)) p h.0) (devices_bytes (suc n) devices (omega (arith, small)) h.1)

-- so each store is built
pub built : (text : List ℕ) (ports : List Port) → Store text ports → Built ports
built text ports s =
    record {
      calls = devices_calls 1 s.devices;
      bytes = devices_bytes 1 s.devices (omega (arith, s.six)) s.each;
      so = all_told s.devices s.six s.each ∙ ap station_of (sym s.all);
    }

-- and each store is written
written_by_law : (text : List ℕ) → IsStore text → WrittenBy text
written_by_law text (ports, s) = record { ports = ports; built = built text ports s; so = s.so }

-- what is lent are bytes
byte_at : (bytes : List ℕ) → AllBytes bytes → (i : ℕ) → byte bytes i < 256
unfolding AllBytes
byte_at [] h i = omega arith
byte_at (b ∷ bytes) h zero = h.0
byte_at (b ∷ bytes) h (suc i) = byte_at bytes h.1 i

reads_bytes : (c : Call) → TakesOrAsks c → ReadsBytes c
unfolding TakesOrAsks
reads_bytes (take bytes) h = byte_at bytes h
reads_bytes (request device byte2 byte3 ticks params offset lent) h = byte_at params h.1.0
reads_bytes (cancel device byte2 byte3) h = absurd h
reads_bytes tick h = absurd h
reads_bytes (write writer offset lent) h = absurd h
reads_bytes (restore text) h = absurd h

all_read : (cs : List Call) → AllTakeOrAsk cs → AllRead cs
unfolding AllTakeOrAsk AllRead
all_read [] h = tt
all_read (c ∷ cs) h = (reads_bytes c h.0, all_read cs h.1)

accepted : (st : Station) → Start st → (cs : List Call) → AllRead cs → IsStore (store_text (run st cs).ports)
accepted st start cs h = (keeping.written (store_text (run st cs).ports)).1 ((run st cs).ports, (reads_back.storable st start cs h, refl))

-- what is written is a store
by_store_law : (text : List ℕ) → WrittenBy text → IsStore text
by_store_law text w =
    let b = w.built in
    let is : store_text (run fresh_station b.calls).ports ≡ text = ap (λ (st : Station). store_text st.ports) b.so ∙ sym w.so in
    subst IsStore is (accepted fresh_station fresh b.calls (all_read b.calls b.bytes))

-- with just room enough
module _ (text : List ℕ) where
  abbrev room : List ℕ
  room = replicate (length text) 0

  fitting : fits_at (length text) 0 (length room) ≡ true
  fitting = le-leb (0 + length text) (length room) (omega (arith, length-replicate {A = ℕ} (length text) 0))

  whole : (frame_at text 0 room).lent ≡ text
  unfolding frame_at
  whole =
      let end : drop (0 + length text) room ≡ [] = drop_of_length-le room {i = 0 + length text} (omega (arith, length-replicate {A = ℕ} (length text) 0)) in
      ap (λ (b : Bool). (cond {A = WriteOutcome} b (record { answer = wrote (length text); lent = pasted text 0 room }) (record { answer = refused no_room; lent = room })).lent) fitting
      ∙ ap (λ (l : List ℕ). text ++ l) end
      ∙ append-nil text

wrote_all : (st : Station) → (step st (write store 0 (replicate (length (store_text st.ports)) 0))).lent ≡ store_text st.ports
unfolding step store_rule
wrote_all st = whole (store_text st.ports)

pub all_written : AllWritten
all_written =
    record {
      built = built;
      exactly = λ text. (written_by_law text, by_store_law text);
      accepted = accepted;
      wrote = wrote_all;
    }
