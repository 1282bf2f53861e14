-- Document 02, Ask 4, of the calls, worked: a port with two equal places, 1 and 3, such as no call reaches. Each field of the statement is used here.
use Rattle.std.specs.Prelude.{ℕ, ◌<◌, ◌≡◌, Bool, true, false, List, [], ◌∷◌, length, set}
use Rattle.std.proofs.Common.{sym, ◌∙◌, ap, subst, lit<}
use Rattle.port.specs.declared.Port.{Port}
use Rattle.port.specs.declared.Request.{Request}
use Rattle.port.specs.Records.{empty_place, request_in}
use Rattle.port.specs.Places.{is_empty, matches}
use Rattle.port.specs.Searching.{NoneBelow, Lowest}
use Rattle.port.proofs.SearchingExamples.{twins, twin}
use Rattle.port.specs.Waiting.{at, room_for, cancel_at}
use Rattle.matching.specs.declared.Message.{Message}
use Rattle.matching.specs.Matching.{answers}
use Rattle.hidpp.specs.HidppTaking.{is_error, named2, named3, error_fits, take_hidpp}
use Rattle.serial.specs.Serials.{is_asked_with}
use Rattle.reach.specs.LowestPlaces.{EndsLowest, LowestPlaces}

module _ (p : Port) (l : LowestPlaces p) (hit other : Request) (is : p.places ≡ twins hit other) where
  within : 1 < length p.places
  within = subst (λ (xs : List Request). 1 < length xs) (sym is) (lit< tt)

  lower : (test : Request → Bool) → test hit ≡ true → test other ≡ false → Lowest test p.places 1
  lower test hits misses = subst (λ (xs : List Request). Lowest test xs 1) (sym is) (twin test hit other hits misses)

  -- the lower is emptied, and its equal stays
  abbrev one_left : List Request
  one_left = other ∷ empty_place ∷ other ∷ hit ∷ []

  ended : (test : Request → Bool) {after : List Request} → EndsLowest test p.places after → test hit ≡ true → test other ≡ false → after ≡ one_left
  ended test e hits misses =
      e.ended 1 within (lower test hits misses) ∙ ap (λ (xs : List Request). set xs 1 empty_place) is

  cancels_lower : (byte2 byte3 : ℕ) → matches byte2 byte3 hit ≡ true → matches byte2 byte3 other ≡ false → (cancel_at p byte2 byte3).port.places ≡ one_left
  cancels_lower byte2 byte3 = ended (matches byte2 byte3) (l.cancels byte2 byte3)

  error_ends_lower : (m : Message) → is_error m.byte2.0 ≡ true → error_fits m ≡ true → matches (named2 m) (named3 m) hit ≡ true → matches (named2 m) (named3 m) other ≡ false → (take_hidpp p m).port.places ≡ one_left
  error_ends_lower m e f = ended (matches (named2 m) (named3 m)) (l.errors m e f)

  reply_ends_lower : (m : Message) → is_error m.byte2.0 ≡ false → answers m hit ≡ true → answers m other ≡ false → (take_hidpp p m).port.places ≡ one_left
  reply_ends_lower m e = ended (answers m) (l.replies m e)

  -- a request goes to the lower of two empty places
  fills_lower : (byte2 byte3 : ℕ) → NoneBelow (matches byte2 byte3) p.places (length p.places) → is_empty hit ≡ true → is_empty other ≡ false → room_for p.places byte2 byte3 ≡ at 1
  fills_lower byte2 byte3 none hits misses = (l.admits byte2 byte3 1 within).1 (none, lower is_empty hits misses)

  asks_lower : matches 0x83 0xB5 hit ≡ true → matches 0x83 0xB5 other ≡ false → is_asked_with p hit.first.0 ≡ true
  asks_lower hits misses =
      (l.asks hit.first.0).1 (1, (within, (lower (matches 0x83 0xB5) hits misses, ap (λ (xs : List Request). (request_in xs 1).first.0) is)))

-- where none matches, none ends
keeps_all : (p : Port) → LowestPlaces p → (byte2 byte3 : ℕ) → NoneBelow (matches byte2 byte3) p.places (length p.places) → (cancel_at p byte2 byte3).port.places ≡ p.places
keeps_all p l byte2 byte3 none = (l.cancels byte2 byte3).none none
