-- Laws of the text of a store: a line that ends with fields of one kind.
use Rattle.std.specs.Prelude.{ℕ, suc, ◌≡◌, refl, List, [], ◌∷◌, ◌++◌}
use Rattle.std.proofs.Common.{sym, ◌∙◌, ap, append_assoc}
use Rattle.report.specs.declared.FeatureIndex.{FeatureIndex}
use Rattle.port.specs.declared.Port.{Port}
use Rattle.text.specs.Words.{newline, hex, decimal}
use Rattle.text.specs.Texts.{each_from, each, tab, tabbed, digits16, digits32, version_text, serial_text}
use Rattle.store.specs.Stores.{index_fields, index_text, pad_line}

-- a field, and then the indexes
pub indexes_after : (n : ℕ) (field : List ℕ) (features : List FeatureIndex) → tabbed (field ∷ index_fields features) ≡ field ++ (each_from index_text n features ++ (newline ∷ []))
unfolding each_from
indexes_after n field [] = refl
indexes_after n field (index ∷ features) =
    ap (λ (l : List ℕ). field ++ (tab ∷ l)) (indexes_after (suc n) (decimal index.0) features ∙ sym (append_assoc (decimal index.0) (each_from index_text (suc n) features) (newline ∷ [])))

-- the fields of a line, each with the byte after it, and then the indexes
pub pad_line_law : (number : ℕ) (p : Port) → pad_line number p ≡ decimal number ++ (tab ∷ (hex digits16 p.wpid ++ (tab ∷ (serial_text p.serial ++ (tab ∷ (hex digits32 p.reports ++ (tab ∷ (version_text p.version ++ (each index_text p.features ++ (newline ∷ []))))))))))
unfolding pad_line
pad_line_law number p =
    ap (λ (l : List ℕ). decimal number ++ (tab ∷ (hex digits16 p.wpid ++ (tab ∷ (serial_text p.serial ++ (tab ∷ (hex digits32 p.reports ++ (tab ∷ l)))))))) (indexes_after 0 (version_text p.version) p.features)
