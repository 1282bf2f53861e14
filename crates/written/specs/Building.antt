-- Document 02, Ask 3: the calls after which a station is the one that a store restores. A paired device is told by a 0x41, its version by a ping, its feature indexes by GetFeature, and its serial by the receiver.
use Rattle.std.specs.Prelude.{ℕ, suc, ◌/◌, ◌%◌, ◌<◌, cond, List, [], ◌∷◌, ◌++◌, replicate, Option, Some, None}
use Rattle.report.specs.Ports.{receiver}
use Rattle.report.specs.Sizes.{hidpp_short, hidpp_long, dj_short}
use Rattle.report.specs.declared.FeatureIndex.{FeatureIndex}
use Rattle.port.specs.declared.Port.{Port}
use Rattle.port.specs.declared.Version.{Version}
use Rattle.port.specs.Records.{known_features}
use Rattle.serial.specs.Serials.{long_register, serial_register, parameter_for}
use Rattle.sequence.specs.Steps.{Call, take, request, cancel, tick, write, restore}

-- a 0x41 with this WPID and bitfield, lowest byte first
abbrev pub paired_report : (number wpid reports : ℕ) → List ℕ
paired_report number wpid reports =
    dj_short ∷ number ∷ 0x41 ∷ 0 ∷ wpid % 256 ∷ wpid / 256 ∷ reports % 256 ∷ reports / 256 % 256 ∷ reports / 256 / 256 % 256 ∷ reports / 256 / 256 / 256 ∷ replicate 5 0

-- a buffer for a short request
abbrev pub short_buffer : List ℕ
short_buffer = replicate 7 0

-- a short request that waits for one tick
abbrev pub asks : (number byte2 byte3 p0 p1 p2 : ℕ) → Call
asks number byte2 byte3 p0 p1 p2 = request number byte2 byte3 1 (p0 ∷ p1 ∷ p2 ∷ []) 0 short_buffer

-- a short reply
abbrev pub replies : (number byte2 byte3 p0 p1 p2 : ℕ) → Call
replies number byte2 byte3 p0 p1 p2 = take (hidpp_short ∷ number ∷ byte2 ∷ byte3 ∷ p0 ∷ p1 ∷ p2 ∷ [])

-- a ping with software id 1, and its reply
abbrev pub version_calls : ℕ → Option Version → List Call
version_calls number None = []
version_calls number (Some version) = asks number 0 0x11 0 0 0 ∷ replies number 0 0x11 version.major version.minor 0 ∷ []

-- GetFeature with software id 1, and its reply
abbrev pub index_calls : (number feature index : ℕ) → List Call
index_calls number feature index = asks number 0 0x01 (feature / 256) (feature % 256) 0 ∷ replies number 0 0x01 index 0 0 ∷ []

unfoldable pub indexes_calls : ℕ → List ℕ → List FeatureIndex → List Call
indexes_calls number [] features = []
indexes_calls number (feature ∷ known) [] = []
indexes_calls number (feature ∷ known) (index ∷ features) = index_calls number feature index.0 ++ indexes_calls number known features

-- a long reply that gives a serial, the most significant byte first
abbrev pub serial_answer : (number serial : ℕ) → List ℕ
serial_answer number serial =
    hidpp_long ∷ receiver ∷ long_register ∷ serial_register ∷ parameter_for number ∷ serial / 256 / 256 / 256 ∷ serial / 256 / 256 % 256 ∷ serial / 256 % 256 ∷ serial % 256 ∷ replicate 11 0

abbrev pub serial_calls : ℕ → Option ℕ → List Call
serial_calls number None = []
serial_calls number (Some serial) =
    asks receiver long_register serial_register (parameter_for number) 0 0 ∷ take (serial_answer number serial) ∷ []

-- all that is known of a paired device
unfoldable pub device_calls : ℕ → Port → List Call
device_calls number p =
    cond p.paired
    (take (paired_report number p.wpid p.reports)
    ∷ (version_calls number p.version
    ++ (indexes_calls number known_features p.features
    ++ serial_calls number p.serial)))
    []

-- the devices from a number on
unfoldable pub devices_calls : ℕ → List Port → List Call
devices_calls number [] = []
devices_calls number (p ∷ devices) = device_calls number p ++ devices_calls (suc number) devices

-- every byte is one
unfoldable pub AllBytes : List ℕ → Type 0
AllBytes [] = Unit
AllBytes (byte ∷ bytes) = (byte < 256) × AllBytes bytes

-- a report that is taken or a request that is made, with bytes for all their numbers
unfoldable pub TakesOrAsks : Call → Type 0
TakesOrAsks (take bytes) = AllBytes bytes
TakesOrAsks (request device byte2 byte3 ticks params offset lent) =
    AllBytes (device ∷ byte2 ∷ byte3 ∷ ticks ∷ offset ∷ []) × (AllBytes params × AllBytes lent)
TakesOrAsks (cancel device byte2 byte3) = ⊥
TakesOrAsks tick = ⊥
TakesOrAsks (write writer offset lent) = ⊥
TakesOrAsks (restore text) = ⊥

unfoldable pub AllTakeOrAsk : List Call → Type 0
AllTakeOrAsk [] = Unit
AllTakeOrAsk (c ∷ calls) = TakesOrAsks c × AllTakeOrAsk calls
