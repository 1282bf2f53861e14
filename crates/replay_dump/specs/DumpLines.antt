-- docs/SCRIPTS.md, "Answers": what dump shows of every port.
use Rattle.std.specs.Prelude.{ℕ, ◌+◌, ◌*◌, List, [], ◌∷◌, ◌++◌, cond, length}
use Rattle.report.specs.declared.FeatureIndex.{FeatureIndex}
use Rattle.port.specs.Places.{is_empty}
use Rattle.port.specs.Records.{feature_count, place_count}
use Rattle.port.specs.declared.Port.{Port}
use Rattle.port.specs.declared.Request.{Request}
use Rattle.text.specs.Words.{ascii, hex, decimal}
use Rattle.text.specs.Texts.{each, digits8, digits16, digits32, byte_most, link_text, link_most, version_text, version_most, battery_text, battery_most, serial_text, serial_most}
use Rattle.station.specs.Stations.{port_count, number_at}
use Rattle.station.specs.declared.Station.{Station}
use Rattle.replay_fields.specs.AnswerFields.{field, field_most, line, line_end, byte_text, flag, flag_most, comma_most, parted}

-- features are decimal
abbrev pub feature_text : FeatureIndex → List ℕ
feature_text feature = decimal feature.0

-- with the comma before it
abbrev pub feature_most : ℕ
feature_most = comma_most + byte_most

-- byte 2, byte 3, the first three parameters, and then the ticks left
unfoldable pub request_text : Request → List ℕ
request_text r =
    byte_text r.byte2.0
    ++ (ascii ":"
    ++ (byte_text r.byte3
    ++ (ascii ":"
    ++ (byte_text r.first.0
    ++ (ascii ":"
    ++ (byte_text r.first.1
    ++ (ascii ":"
    ++ (byte_text r.first.2
    ++ (ascii ":"
    ++ decimal r.ticks)))))))))

abbrev pub request_most : ℕ
request_most = digits8 + 4 * (length (ascii ":") + digits8) + (length (ascii ":") + byte_most)

unfoldable pub place_text : Request → List ℕ
place_text r = cond (is_empty r) (ascii "-") (request_text r)

-- with the comma before it
abbrev pub place_most : ℕ
place_most = comma_most + request_most

unfoldable pub features_text : List FeatureIndex → List ℕ
features_text features = each (parted feature_text) features

unfoldable pub places_text : List Request → List ℕ
places_text places = each (parted place_text) places

-- a line begins with it
abbrev pub port_name : List ℕ
port_name = ascii "port="

unfoldable pub port_line : (number : ℕ) → Port → List ℕ
port_line number p =
    line
    (port_name
    ∷ decimal number
    ∷ field "paired" (flag p.paired)
    ∷ field "wpid" (hex digits16 p.wpid)
    ∷ field "reports" (hex digits32 p.reports)
    ∷ field "link" (link_text p.up)
    ∷ field "version" (version_text p.version)
    ∷ field "features" (features_text p.features)
    ∷ field "battery" (battery_text p.battery)
    ∷ field "places" (places_text p.places)
    ∷ field "serial" (serial_text p.serial)
    ∷ [])

-- each name with its value at its longest, and a newline
abbrev pub port_most : ℕ
port_most =
    length port_name
    + byte_most
    + field_most "paired" flag_most
    + field_most "wpid" digits16
    + field_most "reports" digits32
    + field_most "link" link_most
    + field_most "version" version_most
    + field_most "features" (feature_most * feature_count)
    + field_most "battery" battery_most
    + field_most "places" (place_most * place_count)
    + field_most "serial" serial_most
    + line_end

-- a line for each port, under its number: 1 to 6, and then 255
unfoldable pub ports_text : List Port → List ℕ
ports_text ports = each (λ (position : ℕ) (p : Port). port_line (number_at position) p) ports

abbrev pub dump_text : Station → List ℕ
dump_text st = ports_text st.ports

-- no dump is longer
abbrev pub dump_most : ℕ
dump_most = port_most * port_count
