-- Laws of what is read: a store has seven ports, and whether a text is accepted does not depend on the ports that it replaces.
use Rattle.std.specs.Prelude.{ℕ, zero, suc, ◌+◌, ◌≡◌, refl, Bool, true, false, cond, List, [], ◌∷◌, eqb, length}
use Rattle.std.proofs.Common.{sym, ◌∙◌, ap, true≢false}
use Rattle.report.specs.Ports.{device_count}
use Rattle.port.specs.declared.Port.{Port}
use Rattle.scan.specs.Scans.{Scan, missing, found}
use Rattle.store.specs.Stores.{edition}
use Rattle.restore.specs.Restoring.{StoreRead, store_of, of_other, broken_at, with_first, row_in, devices_in, edition_scan, by_edition, read_store}

is_store : StoreRead → Bool
is_store (store_of ports) = true
is_store of_other = false
is_store (broken_at line) = false

ports_in : StoreRead → List Port
ports_in (store_of ports) = ports
ports_in of_other = []
ports_in (broken_at line) = []

-- one port more
first_length : (p : Port) (r : StoreRead) (n : ℕ) → ((ports : List Port) → r ≡ store_of ports → length ports ≡ n) → (ports : List Port) → with_first p r ≡ store_of ports → length ports ≡ suc n
unfolding is_store ports_in
first_length p (store_of next) n h ports e = ap (λ (x : StoreRead). length (ports_in x)) (sym e) ∙ ap suc (h next refl)
first_length p of_other n h ports e = absurd (true≢false (ap is_store (sym e)))
first_length p (broken_at line) n h ports e = absurd (true≢false (ap is_store (sym e)))

devices_length : (more number line : ℕ) (text : List ℕ) (ports : List Port) → devices_in more number line text ≡ store_of ports → length ports ≡ suc more
unfolding devices_in is_store ports_in
devices_length zero number line [] ports e = ap (λ (x : StoreRead). length (ports_in x)) (sym e)
devices_length zero number line (c ∷ text) ports e = absurd (true≢false (ap is_store (sym e)))
devices_length (suc more) number line text ports e =
    first_length (row_in number text).port (devices_in more (suc number) (line + (row_in number text).lines) (row_in number text).rest) (suc more) (devices_length more (suc number) (line + (row_in number text).lines) (row_in number text).rest) ports e

pub seven_ports : (text : List ℕ) (ports : List Port) → read_store text ≡ store_of ports → length ports ≡ suc device_count
unfolding read_store is_store
seven_ports text ports e = by (edition_scan text) e
  where
    by : (x : Scan (Unit {0} × ℕ)) → by_edition x ≡ store_of ports → length ports ≡ suc device_count
    by missing q = absurd (true≢false (ap is_store (sym q)))
    by (found p rest) q = go (eqb p.1 edition) q
      where
        go : (b : Bool) → cond b (devices_in device_count 1 2 rest) of_other ≡ store_of ports → length ports ≡ suc device_count
        go true z = devices_length device_count 1 2 rest ports z
        go false z = absurd (true≢false (ap is_store (sym z)))
