-- Document 01, "Ports and their records", and document 02, Ask 1 (the serial): what is fresh.
use Rattle.std.specs.Prelude.{ℕ, suc, Bool, true, false, cond, List, [], ◌∷◌, get_or, replicate, eqb, Option, None}
use Rattle.port.specs.declared.Port.{Port}
use Rattle.port.specs.declared.Request.{Request}
use Rattle.port.specs.declared.Version.{Version}
use Rattle.port.specs.declared.Battery.{Battery}
use Rattle.report.specs.declared.FeatureIndex.{FeatureIndex}

-- places for waiting requests on a port
abbrev pub place_count : ℕ
place_count = 4

-- known features by their ids
abbrev pub feature_set : ℕ
feature_set = 0x0001

abbrev pub device_information : ℕ
device_information = 0x0003

abbrev pub device_name : ℕ
device_name = 0x0005

abbrev pub battery_status : ℕ
battery_status = 0x1000

abbrev pub wireless_status : ℕ
wireless_status = 0x1D4B

abbrev pub known_features : List ℕ
known_features = feature_set ∷ device_information ∷ device_name ∷ battery_status ∷ wireless_status ∷ []

abbrev pub feature_count : ℕ
feature_count = 5

-- the largest feature index that is kept
abbrev pub max_index : ℕ
max_index = 63

-- where a feature is in a list; the length of the list where it is not there
abbrev pub slot_in : List ℕ → ℕ → ℕ
slot_in [] feature = 0
slot_in (x ∷ xs) feature = cond (eqb feature x) 0 (suc (slot_in xs feature))

-- the slot of a known feature
abbrev pub slot_of : ℕ → ℕ
slot_of feature = slot_in known_features feature

-- a place where no request waits: fresh, or emptied
unfoldable pub empty_place : Request
empty_place =
    record { byte2 = record { 0 = 0 }; byte3 = 0; first = record { 0 = 0; 1 = 0; 2 = 0 }; ticks = 0 }

-- not paired, numbers 0, the link down, version, battery and serial unknown, no index found, four empty places
unfoldable pub fresh_port : Port
fresh_port =
    record {
      paired = false;
      wpid = 0;
      reports = 0;
      up = false;
      version = None;
      features = replicate feature_count (record { 0 = 0 });
      battery = None;
      serial = None;
      places = replicate place_count empty_place;
    }

-- what becomes of a port whose device is gone, or is another
unfoldable pub made_fresh : Port → Port
made_fresh p = fresh_port

-- the request in a place
abbrev pub request_in : List Request → ℕ → Request
request_in places place = get_or places place empty_place

-- the index held for the known feature of a slot
abbrev pub feature_at : List FeatureIndex → ℕ → ℕ
feature_at features slot = (get_or features slot (record { 0 = 0 })).0

-- a port with one thing of it changed
unfoldable pub with_version : Port → Option Version → Port
with_version p x = record { paired = p.paired; wpid = p.wpid; reports = p.reports; up = p.up; version = x; features = p.features; battery = p.battery; serial = p.serial; places = p.places }

unfoldable pub with_battery : Port → Option Battery → Port
with_battery p x = record { paired = p.paired; wpid = p.wpid; reports = p.reports; up = p.up; version = p.version; features = p.features; battery = x; serial = p.serial; places = p.places }

unfoldable pub with_serial : Port → Option ℕ → Port
with_serial p x = record { paired = p.paired; wpid = p.wpid; reports = p.reports; up = p.up; version = p.version; features = p.features; battery = p.battery; serial = x; places = p.places }

unfoldable pub with_features : Port → List FeatureIndex → Port
with_features p x = record { paired = p.paired; wpid = p.wpid; reports = p.reports; up = p.up; version = p.version; features = x; battery = p.battery; serial = p.serial; places = p.places }

unfoldable pub with_places : Port → List Request → Port
with_places p x = record { paired = p.paired; wpid = p.wpid; reports = p.reports; up = p.up; version = p.version; features = p.features; battery = p.battery; serial = p.serial; places = x }

unfoldable pub with_link : Port → Bool → Port
with_link p x = record { paired = p.paired; wpid = p.wpid; reports = p.reports; up = x; version = p.version; features = p.features; battery = p.battery; serial = p.serial; places = p.places }

unfoldable pub with_reports : Port → ℕ → Port
with_reports p x = record { paired = p.paired; wpid = p.wpid; reports = x; up = p.up; version = p.version; features = p.features; battery = p.battery; serial = p.serial; places = p.places }

-- paired with this WPID and bitfield
unfoldable pub with_pairing : Port → ℕ → ℕ → Port
with_pairing p wpid reports = record { paired = true; wpid = wpid; reports = reports; up = p.up; version = p.version; features = p.features; battery = p.battery; serial = p.serial; places = p.places }
