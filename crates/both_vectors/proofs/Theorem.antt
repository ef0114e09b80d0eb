-- Every case of the table holds: each side computes. Assumes nothing.
use Rattle.sig_types.specs.Codes.{integer_code, float_code}
use mathlib.Core.Path.{refl}
use Rattle.base_conventions.specs.Numbers.{convention_code}
use Rattle.base_words.specs.Basics.{round_up, All}
use Rattle.sig_types.specs.Structs.{with_field, shape_of}
use Rattle.sig_types.specs.Trees.{type_of, count_of}
use Rattle.sig_items.specs.Read.{body_at, integer_at, float_of, float_at, sequence, sized_at, contents_at, item_by, struct_at, item_at}
use Rattle.sig_signatures.specs.Read.{convention_at, result_in, result_at, ellipsis_at, arguments_in, arguments_at, after_ellipsis, after_result, after_convention, signature_of}
use Rattle.plan_places.specs.Power.{words, fprs, share_of, power_share, unclear}
use Rattle.plan_places.specs.ZSeries.{z_class, z_span_of, z_next_of}
use Rattle.plan_places.specs.Step.{with_ellipsis, span_of, next_of, unclear_for, fresh_cursor, start_of, area_of, hidden_for, returning, result_of}
use Rattle.plan_places.specs.Places.{up_from, registers_of}
use Rattle.plan_plans.specs.Plan.{spans_of, last_of, table_of, plan_in, plan_answer}
use Rattle.plan_plans.specs.Call.{first_unclear, called}
use Rattle.sig_reader.specs.Argument.{argument_in}
use Rattle.sig_items.specs.Encode.{item, encode_tree, encode_trees}
use Rattle.sig_signatures.specs.Encode.{encode_result, ellipsis_item}
use Rattle.sig_signatures.specs.Types.{types_of}
use Rattle.plan_text.specs.Decimals.{digits_of, decimal}
use Rattle.plan_line.specs.Line.{places_text, line_text}
use Rattle.plan_listing.specs.Text.{lines_text, head_text, result_text, refusal_text, accepted_text, plan_text_of, listing_of}
use lib.Count.{count_leading_zeros}
use Rattle.base_ieee.specs.Format.{join, split}
use Rattle.base_ieee.specs.Widening.{widen_fields, widen}
use Rattle.base_ieee.specs.Narrowing.{candidate_fields, candidate, narrow}
use Rattle.frame_rules.specs.Frames.{below, full_size, frame_size}
use Rattle.both_vectors.specs.Vectors.{AllHold, vectors, ellipsis-item, figure_by, figure-3-18-var, figure-3-18-var-text, figure-3-18b-var, figure-3-18b-var-text, aix-var, aix-var-text, ellipsis-with-a-body, ellipsis-with-a-body-text, two-ellipses, two-ellipses-text, figure-3-18, figure-3-18-text, figure-3-18b, figure-3-18b-text, seven-long-doubles, seven-long-doubles-text, table-10, table-10-text, moo-func, moo-func-text, empty-text}

pub vectors-hold : AllHold vectors
unfolding All vectors ellipsis-item figure_by figure-3-18-var figure-3-18-var-text figure-3-18b-var figure-3-18b-var-text aix-var aix-var-text ellipsis-with-a-body ellipsis-with-a-body-text two-ellipses two-ellipses-text figure-3-18 figure-3-18-text figure-3-18b figure-3-18b-text seven-long-doubles seven-long-doubles-text table-10 table-10-text moo-func moo-func-text empty-text round_up with_field shape_of type_of body_at integer_code float_code integer_at float_of float_at sequence sized_at contents_at item_by struct_at item_at convention_code convention_at result_in result_at ellipsis_at arguments_in arguments_at after_ellipsis after_result after_convention signature_of words fprs share_of power_share z_class z_span_of z_next_of span_of next_of fresh_cursor start_of area_of hidden_for returning result_of with_ellipsis up_from registers_of spans_of last_of table_of plan_in types_of plan_answer unclear unclear_for first_unclear called argument_in count_of item encode_tree encode_trees encode_result ellipsis_item digits_of decimal places_text line_text lines_text head_text result_text refusal_text accepted_text plan_text_of listing_of count_leading_zeros join split widen_fields widen candidate_fields candidate narrow below full_size frame_size
vectors-hold = (refl, (refl, (refl, (refl, (refl, (refl, (refl, (refl, (refl, (refl, (refl, (refl, (refl, (refl, (refl, (refl, (refl, (refl, (refl, (refl, tt))))))))))))))))))))
