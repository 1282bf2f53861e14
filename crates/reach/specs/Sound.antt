-- Document 01, "Ports and their records", "Refusal numbers" (5, 9 and 11) and "Writing", and document 02, Ask 1: what holds on every station that calls reach.
use Rattle.std.specs.Prelude.{ℕ, ◌≤◌, ◌<◌, ◌≡◌, Bool, true, false, List, length, Option, None}
use Rattle.report.specs.declared.FeatureIndex.{FeatureIndex}
use Rattle.frame.specs.Forbidden.{is_askable}
use Rattle.port.specs.declared.Port.{Port}
use Rattle.port.specs.declared.Request.{Request}
use Rattle.port.specs.Records.{place_count, feature_count, max_index, empty_place, request_in, feature_at}
use Rattle.port.specs.Places.{is_empty, matches}
use Rattle.request.specs.Requesting.{max_ticks}
use Rattle.station.specs.declared.Station.{Station}
use Rattle.station.specs.Stations.{port_count, receiver_position, port_at}

-- a place: at most 255 ticks left; byte 2 of a request that waits is 0x00 to 0x3F or 0x80 to 0x83; a place with 0 ticks, which is empty, is as fresh
pub record SoundPlace (r : Request) : Type 0 where
  pub ticks : r.ticks ≤ max_ticks
  pub askable : is_empty r ≡ false → is_askable r.byte2.0 ≡ true
  pub empty : is_empty r ≡ true → r ≡ empty_place

-- two places where requests with the same bytes 2 and 3 wait are the same place
abbrev pub Unique : List Request → Type 0
Unique places =
    (byte2 byte3 i j : ℕ) → matches byte2 byte3 (request_in places i) ≡ true → matches byte2 byte3 (request_in places j) ≡ true → i ≡ j

pub record SoundPlaces (places : List Request) : Type 0 where
  pub all : length places ≡ place_count
  pub unique : Unique places
  pub each : (place : ℕ) → SoundPlace (request_in places place)

-- an index for each of the known features, at most 63
pub record SoundFeatures (features : List FeatureIndex) : Type 0 where
  pub all : length features ≡ feature_count
  pub each : (slot : ℕ) → feature_at features slot ≤ max_index

-- what the port at a position holds; port 255 is not paired, and no serial is known of what is not paired
pub record SoundRecord (position : ℕ) (paired : Bool) (serial : Option ℕ) (features : List FeatureIndex) (places : List Request) : Type 0 where
  pub receiver : position ≡ receiver_position → paired ≡ false
  pub unpaired : paired ≡ false → serial ≡ None
  pub indexes : SoundFeatures features
  pub waiting : SoundPlaces places

abbrev pub SoundPort : ℕ → Port → Type 0
SoundPort position p = SoundRecord position p.paired p.serial p.features p.places

-- seven ports, and each of them sound
pub record Reached (st : Station) : Type 0 where
  pub all : length st.ports ≡ port_count
  pub each : (position : ℕ) → position < port_count → SoundPort position (port_at st position)
