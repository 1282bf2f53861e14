-- Document 02, Asks 1 and 3, in its words: which calls stay for a port, what is compared of them, and which two orders are compared.
use Rattle.std.specs.Prelude.{ℕ, ◌+◌, ◌-◌, ◌≡◌, true, false, List, [], ◌∷◌}
use Rattle.report.specs.Ports.{is_device}
use Rattle.report.specs.Sizes.{byte}
use Rattle.port.specs.Answers.{About, reply}
use Rattle.station.specs.declared.Station.{Station}
use Rattle.sequence.specs.Starts.{Start}
use Rattle.sequence.specs.Steps.{Call, CallAnswer, taken, Returned, begins, run}
use Rattle.sequence.specs.Targets.{Target, none, one, all}
use Rattle.sequence.specs.Transcripts.{Entry, transcript}
use Rattle.sequence.specs.Remaining.{compared_of}

-- a port's own calls, the ticks, and every call for 255
pub data Stays (n : ℕ) : Target → Type 0 where
  own_call : Stays n (one n)
  tick_call : Stays n all
  receiver_call : Stays n (one 255)

-- the calls of a run that stay for a port, in their order, and the accepted reads, each of which begins a new sequence for every port
pub data Kept (n : ℕ) : List Entry → List Call → Type 0 where
  kept_none : Kept n [] []
  kept_call : {e : Entry} {es : List Entry} {cs : List Call} → Stays n e.label → Kept n es cs → Kept n (e ∷ es) (e.call ∷ cs)
  begun_call : {e : Entry} {es : List Entry} {cs : List Call} → begins e.call ≡ true → Kept n es cs → Kept n (e ∷ es) (e.call ∷ cs)
  struck_call : {e : Entry} {es : List Entry} {cs : List Call} → ¬ Stays n e.label → begins e.call ≡ false → Kept n es cs → Kept n (e ∷ es) cs

-- the same answer, or the same reply with any drop counts
pub data SameButDrops : CallAnswer → CallAnswer → Type 0 where
  same_answer : {a b : CallAnswer} → a ≡ b → SameButDrops a b
  same_reply : {x y : CallAnswer} (m n : ℕ) (a : About) → x ≡ taken (reply m a) → y ≡ taken (reply n a) → SameButDrops x y

abbrev pub SameLent : Returned → Returned → Type 0
SameLent r q = (r.read ≡ q.read) × (r.lent ≡ q.lent)

-- of a device's own call its answer and every lent byte are compared
abbrev pub ComparesOwn : Type 0
ComparesOwn =
    (n : ℕ) → is_device n ≡ true → (r q : Returned) → compared_of n (one n) r ≡ compared_of n (one n) q → (r.answer ≡ q.answer) × SameLent r q

-- of 255's own call all but the drop count
abbrev pub ComparesReceiver : Type 0
ComparesReceiver =
    (r q : Returned) → compared_of 255 (one 255) r ≡ compared_of 255 (one 255) q → SameButDrops r.answer q.answer × SameLent r q

-- of an accepted read its answer and every lent byte
abbrev pub ComparesRead : Type 0
ComparesRead = (n : ℕ) (r q : Returned) → compared_of n none r ≡ compared_of n none q → (r.answer ≡ q.answer) × SameLent r q

-- a device's drop count: that of a reply to a report whose first parameter is for the device, and 0 in every other answer
pub data Drops (n : ℕ) (r : Returned) : ℕ → Type 0 where
  of_reply : (x : ℕ) (a : About) → r.answer ≡ taken (reply x a) → byte r.read 4 ≡ 0x30 + n - 1 → Drops n r x
  of_other : ((x : ℕ) (a : About) → r.answer ≡ taken (reply x a) → ¬ (byte r.read 4 ≡ 0x30 + n - 1)) → Drops n r 0

-- of a call for 255, for a device, its drop count and every lent byte
abbrev pub ComparesDrops : Type 0
ComparesDrops =
    (n : ℕ) → is_device n ≡ true → (r q : Returned) → compared_of n (one 255) r ≡ compared_of n (one 255) q → ((x y : ℕ) → Drops n r x → Drops n q y → x ≡ y) × SameLent r q

-- two orders in which each device's calls, the ticks, all calls for 255 and the accepted reads keep one sequence end in the same station
abbrev pub OrdersAgree : Type 0
OrdersAgree =
    (st : Station) → Start st → (cs ds : List Call) → ((n : ℕ) → is_device n ≡ true → (ks : List Call) × (Kept n (transcript st cs) ks × Kept n (transcript st ds) ks)) → run st cs ≡ run st ds
