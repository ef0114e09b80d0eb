-- Each type by its own sum, which one word has room for.
use native.Mathlib.Omega.{arith}
use Rattle.call_kept.proofs.Codes.{format-few, equivalent-few, struct-codable}
use Rattle.call_kept.proofs.type_code.Goals as goal

pub overflow_add-result : goal.overflow_add-result
overflow_add-result c = omega (arith, c.from-in-Float-2.ensures, c.from-in-Float.ensures, format-few c.in-Float.f)

pub overflow_mul-result : goal.overflow_mul-result
overflow_mul-result c = omega (arith, struct-codable _ _ c.requires c.in-Struct.is)

pub overflow_add-result-in-Struct : goal.overflow_add-result-in-Struct
overflow_add-result-in-Struct c = omega (arith, c.equivalent_code.ensures, equivalent-few c.in-Struct.s.equivalent, struct-codable _ _ c.requires c.in-Struct.is)

pub overflow_add-result-in-Struct-2 : goal.overflow_add-result-in-Struct-2
overflow_add-result-in-Struct-2 c = omega (arith, c.equivalent_code.ensures, equivalent-few c.in-Struct.s.equivalent, struct-codable _ _ c.requires c.in-Struct.is)

pub returns-in-Float : goal.returns-in-Float
returns-in-Float c = rw (c.in-Float.is, c.from-in-Float-2.ensures, c.from-in-Float.ensures)

pub returns-in-Struct : goal.returns-in-Struct
returns-in-Struct c = rw (c.in-Struct.is, c.equivalent_code.ensures)
