-- `scan::scan_digits` meets its contract: the first digits came to a value.
use Rattle.std.proofs.Common.{◌≡◌, ◌^◌, ◌<◌}
use Rattle.scan.specs.Scans.{found, digits_scan}
use Rattle.scan.proofs.scan_digits.Given as goal

abbrev pub invariant-loop : goal.invariant-loop
invariant-loop l = record {
  small : l.value < 16 ^ l.counter;
  so : digits_scan l.counter l.text ≡ found l.value l.rest;
}
