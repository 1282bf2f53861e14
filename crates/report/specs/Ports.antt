-- Document 01, "Ports and their records" and "Number 5": which numbers name a port.
use Rattle.std.specs.Prelude.{ℕ, Bool, ◌&&◌, ◌||◌, leb, eqb}

-- devices are numbered from 1
abbrev pub device_count : ℕ
device_count = 6

-- the receiver's own number
abbrev pub receiver : ℕ
receiver = 255

-- lo to hi, both among them
abbrev pub in_range : ℕ → ℕ → ℕ → Bool
in_range lo n hi = leb lo n && leb n hi

-- devices 1 to 6
abbrev pub is_device : ℕ → Bool
is_device n = in_range 1 n device_count

-- devices 1 to 6, and 255 for the receiver
abbrev pub is_port : ℕ → Bool
is_port n = is_device n || eqb n receiver
