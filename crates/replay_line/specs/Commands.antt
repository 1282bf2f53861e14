-- docs/SCRIPTS.md, "Lines": the calls that a line can be, with the values that its words stand for.
use Rattle.std.specs.Prelude.{ℕ, List}

-- the calls that write into a lent buffer
pub data LineWriter : Type 0 where
  request : (port byte2 byte3 ticks : ℕ) → LineWriter
  switch : (bits timeout : ℕ) → LineWriter
  get_paired : LineWriter
  led : (port leds : ℕ) → LineWriter
  list : LineWriter
  store : LineWriter
  frame : (port byte2 byte3 : ℕ) → LineWriter

-- a writer is lent a buffer of `room` bytes; a request and a frame have parameters
pub data Command : Type 0 where
  blank : Command
  no_call : Command
  take : (bytes : List ℕ) → Command
  cancel : (port byte2 byte3 : ℕ) → Command
  tick : Command
  restore : (bytes : List ℕ) → Command
  read : (bytes : List ℕ) → Command
  mouse : (payload : List ℕ) → Command
  dump : Command
  write : LineWriter → (offset room : ℕ) (params : List ℕ) → Command
