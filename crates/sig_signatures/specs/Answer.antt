-- The program's answer for each reading. Assumes nothing.
use Rattle.sig_signatures.specs.declared.Head.{Head}
use Rattle.sig_signatures.specs.declared.EllipsisItem.{EllipsisItem}
use Rattle.sig_signatures.specs.declared.ResultItem.{ResultItem}
use Rattle.std.specs.Prelude.{ℕ, ◌-◌, Bool, false, List, [], ◌∷◌, ◌++◌, replicate, Ok, Err, Some, None, Result, Option}
use Rattle.base_conventions.specs.declared.Convention.{Convention}
use Rattle.sig_types.specs.declared.IntegerKind.{IntegerKind}
use Rattle.sig_types.specs.declared.ValueType.{ValueType}
use Rattle.sig_types.specs.Trees.{Trees, none, ◌▸◌, type_of, count_of}
use Rattle.sig_items.specs.declared.Fault.{Fault}
use Rattle.sig_items.specs.Reading.{Reading, got, no}
use Rattle.sig_signatures.specs.declared.Argument.{Argument}
use Rattle.sig_signatures.specs.declared.SignatureRead.{SignatureRead}
use Rattle.sig_signatures.specs.Signature.{ResultTree, nothing, value, Signature, HeadTree}
use Rattle.sig_signatures.specs.Limits.{max_arguments}

abbrev pub convention_answer : Reading Convention → Result Convention Fault
convention_answer (got c next n) = Ok c
convention_answer (no f) = Err f

abbrev pub result_type : Convention → ResultTree → Option ValueType
result_type c nothing = None
result_type c (value t) = Some (type_of c t)

-- what was read: the result, the ellipsis, and all that stands before the arguments

abbrev pub result_found : Option ValueType → ℕ → ℕ → Result ResultItem Fault
result_found t next n = Ok (record { ty = t; next = next; items = n })

abbrev pub ellipsis_found : Bool → ℕ → ℕ → Result EllipsisItem Fault
ellipsis_found v next n = Ok (record { present = v; next = next; items = n })

abbrev pub head_found : Convention → Option ValueType → Bool → ℕ → ℕ → ℕ → Result Head Fault
head_found c t v at e n = Ok (record { convention = c; result = t; ellipsis = v; at = at; end = e; earlier = n })

abbrev pub result_answer : Convention → Reading ResultTree → Result ResultItem Fault
result_answer c (got r next n) = result_found (result_type c r) next n
result_answer c (no f) = Err f

abbrev pub ellipsis_answer : Reading Bool → Result EllipsisItem Fault
ellipsis_answer (got v next n) = ellipsis_found v next n
ellipsis_answer (no f) = Err f

abbrev pub head_answer : Reading HeadTree → Result Head Fault
head_answer (got h next n) = head_found h.convention (result_type h.convention h.result) h.ellipsis next h.end n
head_answer (no f) = Err f

-- the table of arguments: their types in order, and an i8 in each place after them

abbrev pub argument : ValueType → Argument
argument t = record { ty = t }

abbrev pub no_arguments : List Argument
no_arguments = replicate max_arguments (argument (ValueType.Integer IntegerKind.I8))

unfoldable pub listed : Convention → Trees → List Argument
listed c none = []
listed c (ts ▸ t) = listed c ts ++ argument (type_of c t) ∷ []

unfoldable pub table : Convention → Trees → List Argument
table c ts = listed c ts ++ replicate (max_arguments - count_of ts) (argument (ValueType.Integer IntegerKind.I8))

-- "Every refusal leaves all buffers and the state untouched"
abbrev pub refused_signature : Fault → SignatureRead
refused_signature f = record {
  outcome = Err f;
  convention = Convention.Ppc64;
  result = None;
  ellipsis = false;
  count = 0;
  arguments = no_arguments;
}

abbrev pub accepted : Convention → Option ValueType → Bool → Trees → ℕ → SignatureRead
accepted c r v ts n = record { outcome = Ok n; convention = c; result = r; ellipsis = v; count = count_of ts; arguments = table c ts }

abbrev pub signature_answer : Reading Signature → SignatureRead
signature_answer (got g next n) = accepted g.convention (result_type g.convention g.result) g.ellipsis g.arguments n
signature_answer (no f) = refused_signature f
