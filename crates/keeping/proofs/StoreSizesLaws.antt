-- Laws of the length of a store: the fields of a line at their longest, and the byte after each.
use Rattle.std.specs.Prelude.{ℕ, suc, ◌+◌, ◌*◌, ◌≤◌, ◌<◌, ◌≡◌, refl, Bool, true, false, List, [], ◌∷◌, ◌++◌, length, Option, Some, None}
use Rattle.std.proofs.Common.{◌∙◌, ap, arith, length-append}
use Rattle.report.specs.declared.FeatureIndex.{FeatureIndex}
use Rattle.port.specs.declared.Port.{Port}
use Rattle.port.specs.declared.Version.{Version}
use Rattle.port.specs.Records.{fresh_port}
use Rattle.text.specs.Words.{newline, digit, hex, decimal, decimal_in}
use Rattle.text.proofs.WordsLaws.{length_hex, length_decimal}
use Rattle.text.specs.Texts.{each_from, each, tab, paired_text, digits16, digits32, version_text, serial_text}
use Rattle.scan.specs.Scans.{point}
use Rattle.scan.specs.Exact.{VersionFits}
use Rattle.store.specs.Stores.{edition, edition_line, index_text, pad_line, store_text, IndexesFit, PadFits, AllStored, Store}
use Rattle.store.proofs.StoresLaws.{pad_line_law}
use Rattle.keeping.proofs.ReadingLaws.{lines_from, paired_line, no_line, store_lines}

serial_size : (x : Option ℕ) → length (serial_text x) ≤ 8
unfolding serial_text
serial_size None = omega arith
serial_size (Some number) = omega (arith, length_hex digits32 number)

version_size : (x : Option Version) → VersionFits x → length (version_text x) ≤ 7
unfolding version_text
version_size None h = omega arith
version_size (Some version) h =
    let a : length (decimal version.major) ≤ 3 = length_decimal 2 version.major (omega (arith, h.0)) in
    let b : length (decimal version.minor) ≤ 3 = length_decimal 2 version.minor (omega (arith, h.1)) in
    let c : length ((point ∷ []) ++ decimal version.minor) ≡ 1 + length (decimal version.minor) = length-append (point ∷ []) (decimal version.minor) in
    omega (arith, a, b, c, length-append (decimal version.major) ((point ∷ []) ++ decimal version.minor))

indexes_size : (n : ℕ) (features : List FeatureIndex) → IndexesFit features → length (each_from index_text n features) ≤ 3 * length features
unfolding each_from IndexesFit
indexes_size n [] f = omega arith
indexes_size n (index ∷ features) f =
    let a : length (decimal index.0) ≤ 2 = length_decimal 1 index.0 (omega (arith, f.0)) in
    omega (arith, a, indexes_size (suc n) features f.1, length-append (decimal index.0) (each_from index_text (suc n) features))

-- a field, and the byte after it
after_field : (field : List ℕ) (stop : ℕ) (rest : List ℕ) → length (field ++ (stop ∷ rest)) ≡ length field + (1 + length rest)
after_field field stop rest = length-append field (stop ∷ rest) ∙ omega arith

line_size : (number : ℕ) (p : Port) → number < 10 → PadFits p → length (pad_line number p) ≤ 48
line_size number p h f =
    let ends : List ℕ = each index_text p.features ++ (newline ∷ []) in
    let version : List ℕ = version_text p.version ++ ends in
    let reports : List ℕ = hex digits32 p.reports ++ (tab ∷ version) in
    let serial : List ℕ = serial_text p.serial ++ (tab ∷ reports) in
    let wpid : List ℕ = hex digits16 p.wpid ++ (tab ∷ serial) in
    let first : length (decimal number) ≤ 1 = length_decimal 0 number h in
    let l0 : length (pad_line number p) ≡ length (decimal number) + (1 + length wpid) = ap length (pad_line_law number p) ∙ after_field (decimal number) tab wpid in
    let l1 : length wpid ≡ length (hex digits16 p.wpid) + (1 + length serial) = after_field (hex digits16 p.wpid) tab serial in
    let l2 : length serial ≡ length (serial_text p.serial) + (1 + length reports) = after_field (serial_text p.serial) tab reports in
    let l3 : length reports ≡ length (hex digits32 p.reports) + (1 + length version) = after_field (hex digits32 p.reports) tab version in
    let l4 : length version ≡ length (version_text p.version) + length ends = length-append (version_text p.version) ends in
    let l5 : length ends ≡ length (each index_text p.features) + 1 = length-append (each index_text p.features) (newline ∷ []) in
    omega (arith, first, l0, l1, l2, l3, l4, l5, length_hex digits16 p.wpid, serial_size p.serial, length_hex digits32 p.reports, version_size p.version f.spoken, indexes_size 0 p.features f.indexes, f.all)

lines_size : (number : ℕ) (devices : List Port) → number + length devices ≤ 10 → AllStored devices → length (lines_from number devices) ≤ 48 * length devices
unfolding lines_from AllStored
lines_size number [] h a = omega arith
lines_size number (p ∷ devices) h a = go p.paired refl (lines_size (suc number) devices (omega (arith, h)) a.1)
  where
    go : (b : Bool) → p.paired ≡ b → length (lines_from (suc number) devices) ≤ 48 * length devices → length (paired_text pad_line number p ++ lines_from (suc number) devices) ≤ 48 * suc (length devices)
    go true e rest =
        let one : length (paired_text pad_line number p) ≡ length (pad_line number p) = ap length (paired_line number p e) in
        omega (arith, rest, one, line_size number p (omega (arith, h)) (a.0.fits e), length-append (paired_text pad_line number p) (lines_from (suc number) devices))
    go false e rest =
        let none : length (paired_text pad_line number p) ≡ 0 = ap length (no_line number p e) in
        omega (arith, rest, none, length-append (paired_text pad_line number p) (lines_from (suc number) devices))

first_size : length (edition_line edition) ≡ 7
unfolding edition_line decimal decimal_in digit
first_size = refl

pub sizes : (text : List ℕ) (ports : List Port) → Store text ports → (7 ≤ length text) × (length text ≤ 295)
sizes text ports s =
    let is : length text ≡ length (edition_line edition ++ lines_from 1 s.devices) = ap length (s.so ∙ ap store_text s.all ∙ store_lines s.devices fresh_port s.six) in
    let both : length (edition_line edition ++ lines_from 1 s.devices) ≡ length (edition_line edition) + length (lines_from 1 s.devices) = length-append (edition_line edition) (lines_from 1 s.devices) in
    let lines : length (lines_from 1 s.devices) ≤ 48 * length s.devices = lines_size 1 s.devices (omega (arith, s.six)) s.each in
    (omega (arith, is, both, first_size), omega (arith, is, both, first_size, lines, s.six))
