-- Document 01, "Number 9": which requests are forbidden, except for their ticks.
use Rattle.std.specs.Prelude.{ℕ, List, Bool, cond, not, ◌&&◌, ◌||◌, length, eqb}
use Rattle.report.specs.Ports.{in_range}
use Rattle.report.specs.Sizes.{byte, software_id, function, is_feature}

-- parameters of 3 bytes make a short request, of 16 a long one
abbrev pub is_short : ℕ → Bool
is_short size = eqb size 3

abbrev pub is_long : ℕ → Bool
is_long size = eqb size 16

-- parameters of 3 or 16 bytes
abbrev pub is_sized : ℕ → Bool
is_sized size = is_short size || is_long size

-- 0x00 to 0x3F or 0x80 to 0x83
abbrev pub is_askable : ℕ → Bool
is_askable byte2 = is_feature byte2 || in_range 0x80 byte2 0x83

-- 0x82 short, or 0x80, 0x81, 0x83 long
abbrev pub has_wrong_size : ℕ → ℕ → Bool
has_wrong_size byte2 size =
    cond (eqb byte2 0x82) (is_short size)
    ((eqb byte2 0x80 || (eqb byte2 0x81 || eqb byte2 0x83)) && is_long size)

-- byte 2 below 0x40 with software id 0
abbrev pub lacks_software_id : ℕ → ℕ → Bool
lacks_software_id byte2 byte3 = is_feature byte2 && eqb (software_id byte3) 0

-- GetFeature with both first parameters 0
abbrev pub names_no_feature : ℕ → ℕ → List ℕ → Bool
names_no_feature byte2 byte3 params =
    eqb byte2 0 && (eqb (function byte3) 0 && (eqb (byte params 0) 0 && eqb (byte params 1) 0))

unfoldable pub is_forbidden_frame : ℕ → ℕ → List ℕ → Bool
is_forbidden_frame byte2 byte3 params =
    not (is_sized (length params))
    || (not (is_askable byte2)
    || (has_wrong_size byte2 (length params)
    || (lacks_software_id byte2 byte3
    || names_no_feature byte2 byte3 params)))
