-- Document 01, "What the console part does" and "Sequences of calls", and document 02, Ask 1: whom a call may be for, and for whom it stays.
use Rattle.std.specs.Prelude.{ℕ, Bool, true, false, ◌||◌, eqb}
use Rattle.report.specs.Ports.{receiver}
use Rattle.report.specs.Reading as reading

-- a call is for no port, for the one of this number, or for all
pub data Target : Type 0 where
  none : Target
  one : (number : ℕ) → Target
  all : Target

-- a take goes by the report's bytes alone: refused with 1 to 6 and empty lists are for none
abbrev pub read_target : reading.Read → Target
read_target (reading.refused number) = none
read_target (reading.hidpp r) = one r.device
read_target (reading.dj r) = one r.device
read_target (reading.empty_list r) = none

-- whether a call for this target stays for the port of a number: its own calls, the ticks, and every call for 255
abbrev pub is_for : ℕ → Target → Bool
is_for n none = false
is_for n (one number) = eqb number n || eqb number receiver
is_for n all = true
