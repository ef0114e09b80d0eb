-- A turn of each loop: what is in the table so far and what is left make up the whole list. Assumes nothing.
use mathlib.Core.Path.{◌≡◌, refl, ap}
use mathlib.Core.Bool.{Bool, true, false}
use mathlib.Core.List.{List, [], ◌∷◌, ◌++◌}
use Prim.Native.Nat.{ℕ, zero, suc, ◌+◌, ◌-◌, ◌*◌, ◌^◌, ◌≤◌, ◌<◌}
use native.Mathlib.Omega.{arith}
use native.Mathlib.Numerals.{add-one}
use lib.ListN.{length, get_or, set, drop, replicate, length-append, length-replicate}
use Rattle.base_words.specs.Basics.{pick}
use Rattle.base_words.proofs.Basics.{get_or-filled}
use Rattle.base_words.proofs.Tables.{Table, table-start, table_more}
use Rattle.base_conventions.specs.declared.Convention.{Convention}
use Rattle.sig_types.specs.declared.ValueType.{ValueType}
use Rattle.sig_types.specs.Sizes.{size_of}
use Rattle.sig_signatures.specs.Limits.{max_arguments}
use Rattle.second_parameters.specs.declared.Run.{Run}
use Rattle.second_parameters.specs.declared.Parameter.{Parameter}
use Rattle.second_parameters.specs.Values.{numbers, no_run, no_parameter, table_with}
use Rattle.second_structure.specs.Structure.{words_in, fields_from, words_to, floats, laid_over, registers_over, straddles, first_straddling}
use Rattle.second_structure.specs.Helpers.{Bounded}
use Rattle.second_structure.proofs.Laws.{words-few}

-- ---- the structure

pub record Laying (c : Convention) (w at : ℕ) (ts : List ValueType) (fs : List Run) (next i : ℕ) : Type 0 where
  pub table : Table max_arguments no_run fs (fields_from c w next (drop i ts)) (fields_from c w at ts) i
  pub last : words_to c w next (drop i ts) ≡ words_to c w at ts
  pub small : next ≤ 264 * i + 1

pub laying-start : (c : Convention) (w at : ℕ) (ts : List ValueType) → at ≤ 1 → Laying c w at ts (replicate max_arguments no_run) at 0
laying-start c w at ts h = record { table = table-start max_arguments no_run (fields_from c w at ts); last = refl; small = omega arith }

pub laying-more : (c : Convention) (w at : ℕ) (ts : List ValueType) (fs : List Run) (next i : ℕ) (t : ValueType) → 0 < w → w ≤ 8
    → i < max_arguments → size_of c t ≤ 256 → drop i ts ≡ t ∷ drop (suc i) ts → Laying c w at ts fs next i
    → Laying c w at ts (set fs i (numbers next (words_in w (size_of c t)))) (next + words_in w (size_of c t)) (i + 1)
unfolding fields_from words_to
laying-more c w at ts fs next i t p q few small d g =
    let n : ℕ = words_in w (size_of c t) in
    record {
      table = table_more max_arguments no_run (numbers next n) fs (fields_from c w (next + n) (drop (i + 1) ts)) (fields_from c w at ts) i few (rw add-one (rw d at g.table));
      last = rw add-one (rw d at g.last);
      small = omega (arith, g.small, words-few w (size_of c t) p q small);
    }

-- ---- the registers over it

pub record Covering (ellipsis paired : Bool) (w : ℕ) (ts : List ValueType) (fs : List Run) (ps : List Parameter) (m i : ℕ) : Type 0 where
  pub table : Table max_arguments no_parameter ps (registers_over ellipsis paired w m (drop i ts) (drop i fs)) (registers_over ellipsis paired w 0 ts fs) i
  pub small : m ≤ 2 * i

pub covering-start : (ellipsis paired : Bool) (w : ℕ) (ts : List ValueType) (fs : List Run) → Covering ellipsis paired w ts fs (replicate max_arguments no_parameter) 0 0
covering-start ellipsis paired w ts fs = record { table = table-start max_arguments no_parameter (registers_over ellipsis paired w 0 ts fs); small = omega arith }

pub covering-more : (ellipsis paired : Bool) (w : ℕ) (ts : List ValueType) (fs : List Run) (ps : List Parameter) (m i : ℕ) (t : ValueType) (f : Run)
    → i < max_arguments → floats paired t ≤ 2 → drop i ts ≡ t ∷ drop (suc i) ts → drop i fs ≡ f ∷ drop (suc i) fs → Covering ellipsis paired w ts fs ps m i
    → Covering ellipsis paired w ts fs (set ps i (laid_over ellipsis w (floats paired t) m f)) (m + floats paired t) (i + 1)
unfolding registers_over
covering-more ellipsis paired w ts fs ps m i t f few two d e g = record {
  table =
      table_more max_arguments no_parameter (laid_over ellipsis w (floats paired t) m f) ps (registers_over ellipsis paired w (m + floats paired t) (drop (i + 1) ts) (drop (i + 1) fs))
      (registers_over ellipsis paired w 0 ts fs) i few (rw add-one (rw (d, e) at g.table));
  small = omega (arith, g.small);
}

-- ---- the first that straddles

pub record Looking (paired : Bool) (ts : List ValueType) (m i : ℕ) : Type 0 where
  pub rest : first_straddling paired m i (drop i ts) ≡ first_straddling paired 0 0 ts
  pub small : m ≤ 2 * i

pub looking-start : (paired : Bool) (ts : List ValueType) → Looking paired ts 0 0
looking-start paired ts = record { rest = refl; small = omega arith }

looked : (paired : Bool) (ts : List ValueType) (m i : ℕ) (t : ValueType) → drop i ts ≡ t ∷ drop (suc i) ts → Looking paired ts m i
    → pick (straddles m (floats paired t)) (suc i) (first_straddling paired (m + floats paired t) (suc i) (drop (suc i) ts)) ≡ first_straddling paired 0 0 ts
unfolding first_straddling
looked paired ts m i t d g = rw d at g.rest

pub looking-found : (paired : Bool) (ts : List ValueType) (m i : ℕ) (t : ValueType) → drop i ts ≡ t ∷ drop (suc i) ts → straddles m (floats paired t) ≡ true
    → Looking paired ts m i → i + 1 ≡ first_straddling paired 0 0 ts
looking-found paired ts m i t d e g = rw add-one (rw e at (looked paired ts m i t d g))

pub looking-more : (paired : Bool) (ts : List ValueType) (m i : ℕ) (t : ValueType) → drop i ts ≡ t ∷ drop (suc i) ts → floats paired t ≤ 2
    → straddles m (floats paired t) ≡ false → Looking paired ts m i → Looking paired ts (m + floats paired t) (i + 1)
looking-more paired ts m i t d two e g = record {
  rest = rw add-one (rw e at (looked paired ts m i t d g));
  small = omega (arith, g.small);
}

pub looking-end : (paired : Bool) (ts : List ValueType) (m i : ℕ) → drop i ts ≡ [] → Looking paired ts m i → 0 ≡ first_straddling paired 0 0 ts
unfolding first_straddling
looking-end paired ts m i d g = rw d at g.rest

-- ---- a structure's fields end in it

fields-end : (c : Convention) (w at : ℕ) (ts : List ValueType) (i : ℕ) → (get_or (fields_from c w at ts) i no_run).first + (get_or (fields_from c w at ts) i no_run).count ≤ words_to c w at ts
unfolding fields_from words_to
fields-end c w at [] i = omega arith
fields-end c w at (t ∷ ts) zero = words-grow c w (at + words_in w (size_of c t)) ts
  where
    words-grow : (c : Convention) (w at : ℕ) (ts : List ValueType) → at ≤ words_to c w at ts
    words-grow c w at [] = omega arith
    words-grow c w at (t ∷ ts) = omega (arith, words-grow c w (at + words_in w (size_of c t)) ts)
fields-end c w at (t ∷ ts) (suc i) = fields-end c w (at + words_in w (size_of c t)) ts i

pub fields-bounded : (c : Convention) (w at : ℕ) (ts : List ValueType) → words_to c w at ts ≤ 2 ^ 16 → Bounded (table_with no_run (fields_from c w at ts))
unfolding table_with
fields-bounded c w at ts h = record {
  room = simp (length-append, length-replicate) (omega arith);
  ends = λ i. rw (get_or-filled no_run (fields_from c w at ts) (max_arguments - length (fields_from c w at ts)) i) (omega (arith, fields-end c w at ts i));
}

-- ---- places of the table past the last field are not looked at

over-longer : (ellipsis paired : Bool) (c : Convention) (w m at : ℕ) (ts : List ValueType) (l : List Run)
    → registers_over ellipsis paired w m ts (fields_from c w at ts ++ l) ≡ registers_over ellipsis paired w m ts (fields_from c w at ts)
unfolding registers_over fields_from
over-longer ellipsis paired c w m at [] l = refl
over-longer ellipsis paired c w m at (t ∷ ts) l =
    ap (λ (ps : List Parameter). laid_over ellipsis w (floats paired t) m (numbers at (words_in w (size_of c t))) ∷ ps)
    (over-longer ellipsis paired c w (m + floats paired t) (at + words_in w (size_of c t)) ts l)

pub over-table : (ellipsis paired : Bool) (c : Convention) (w m at : ℕ) (ts : List ValueType)
    → registers_over ellipsis paired w m ts (table_with no_run (fields_from c w at ts)) ≡ registers_over ellipsis paired w m ts (fields_from c w at ts)
unfolding table_with
over-table ellipsis paired c w m at ts = over-longer ellipsis paired c w m at ts (replicate (max_arguments - length (fields_from c w at ts)) no_run)
