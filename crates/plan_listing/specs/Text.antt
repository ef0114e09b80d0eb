-- The printed plan of a signature, line by line. Document 01, "Sums to check against". Assumes nothing.
use Rattle.std.specs.Prelude.{ℕ, suc, Bool, List, [], ◌∷◌, ◌++◌, take, Ok, Err, Result}
use Rattle.base_words.specs.Basics.{pick}
use Rattle.base_conventions.specs.declared.Convention.{Convention}
use Rattle.sig_items.specs.declared.Fault.{Fault}
use Rattle.sig_items.specs.Refusals.{refusal_number}
use Rattle.plan_places.specs.declared.Span.{Span}
use Rattle.plan_places.specs.declared.ResultPlaces.{ResultPlaces}
use Rattle.plan_places.specs.Places.{registers_of}
use Rattle.plan_plans.specs.declared.Plan.{Plan}
use Rattle.plan_plans.specs.Plan.{plan_answer}
use Rattle.plan_plans.specs.Call.{call_of}
use Rattle.plan_text.specs.Decimals.{decimal}
use Rattle.plan_line.specs.Words.{newline}
use Rattle.plan_line.specs.Line.{places_text, line_text}
use Rattle.plan_listing.specs.Words.{ppc64_name, z_name, aix_name, ppc64b_name, args_word, area_word, var_word, result_word, none_word, hidden_word, refused_word, at_word, after_word}

abbrev pub name_of : Convention → List ℕ
name_of Convention.Ppc64 = ppc64_name
name_of Convention.Z = z_name
name_of Convention.Aix = aix_name
name_of Convention.Ppc64b = ppc64b_name

-- the lines of the arguments from i on
unfoldable pub lines_text : Convention → ℕ → List Span → List ℕ
lines_text c i [] = []
lines_text c i (s ∷ ss) = line_text c i s ++ lines_text c (suc i) ss

-- 02, No. 5: "The printed listing adds ` var` at the end of its first line"
abbrev pub ellipsis_text : Bool → List ℕ
ellipsis_text v = pick v var_word []

unfoldable pub head_text : Convention → Bool → ℕ → ℕ → List ℕ
head_text c v args area = name_of c ++ (args_word ++ (decimal args ++ (area_word ++ (decimal area ++ (ellipsis_text v ++ newline)))))

-- "Other results: `none`, `f1 f2`, `hidden r3`"
abbrev pub result_places_text : ResultPlaces → List ℕ
result_places_text ResultPlaces.Nothing = none_word
result_places_text (ResultPlaces.Registers s) = places_text (registers_of s)
result_places_text (ResultPlaces.Hidden s) = hidden_word ++ places_text (registers_of s)

unfoldable pub result_text : ResultPlaces → List ℕ
result_text r = result_word ++ (result_places_text r ++ newline)

-- "the printed line becomes `refused 2 at 0 after 0`"
unfoldable pub refusal_text : Fault → List ℕ
refusal_text f =
    refused_word ++ (decimal (refusal_number f.reason) ++ (at_word ++ (decimal f.place ++ (after_word ++ (decimal f.passed ++ newline)))))

unfoldable pub accepted_text : Plan → List ℕ
accepted_text p =
    head_text p.convention p.ellipsis p.count p.area
    ++ (lines_text p.convention 0 (take p.count p.spans) ++ result_text p.result)

abbrev pub plan_text_by : Result ℕ Fault → Plan → List ℕ
plan_text_by (Ok n) p = accepted_text p
plan_text_by (Err f) p = refusal_text f

unfoldable pub plan_text_of : Plan → List ℕ
plan_text_of p = plan_text_by p.outcome p

-- of a signature's bytes
unfoldable pub listing_of : List ℕ → List ℕ
listing_of s = plan_text_of (plan_answer (call_of s))
