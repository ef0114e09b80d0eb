-- A result's places in words. Assumes nothing.
use Rattle.std.specs.Prelude.{ℕ}
use Rattle.plan_places.specs.declared.Span.{Span}
use Rattle.plan_places.specs.declared.ResultPlaces.{ResultPlaces}
use Rattle.plan_entries.specs.declared.ResultWords.{ResultWords}
use Rattle.plan_entries.specs.Words.{first_word}

abbrev pub result_register_words : ℕ → Span → ResultWords
result_register_words kind s = record {
  kind = kind;
  gpr = first_word s.general;
  gprs = s.general.count;
  fpr = first_word s.floating;
  fprs = s.floating.count;
}

-- "Results": 0 none, 1 in registers; 2 hidden, in memory whose address is in a register
abbrev pub result_words : ResultPlaces → ResultWords
result_words ResultPlaces.Nothing = record { kind = 0; gpr = 0; gprs = 0; fpr = 0; fprs = 0 }
result_words (ResultPlaces.Registers s) = result_register_words 1 s
result_words (ResultPlaces.Hidden s) = result_register_words 2 s
