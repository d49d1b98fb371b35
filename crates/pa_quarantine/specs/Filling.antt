-- How a zero-fill, a poisoning and a read change the seat's view.
use Rattle.std.specs.Prelude.{ℕ, zero, suc, true}
use Rattle.pa_slot.specs.declared.title.Title.{Title}
use Rattle.pa_slot.specs.Titles.{content_count, poison}
use Rattle.pa_region.specs.declared.view.View.{View}
use Rattle.pa_region.specs.Moves.{changed, is_own_of, filled_with}
use Rattle.pa_region.specs.Shares.{Share}
use Rattle.pa_region.specs.Stores.{dirty, poisoned_to}

-- the view after stores of 0 to the title's first n content words
abbrev pub zeros_to : Title → ℕ → View → View
zeros_to t zero v = v
zeros_to t (suc n) v = record v { words = filled_with 0 t (suc n) v.words; since = record v.since { stored = true } }

-- the view after the poisoning of the title's first n content words
abbrev pub poisons_to : Title → ℕ → View → View
poisons_to t zero v = v
poisons_to t (suc n) v = record v {
  words = filled_with poison t (suc n) v.words;
  owns = changed (is_own_of t) (poisoned_to (suc n)) v.owns;
  since = record v.since { poisoned = true };
}

-- the view after a zero-fill of the whole content
abbrev pub zeroed : Title → View → View
zeroed t v = record v { words = filled_with 0 t (content_count t) v.words; since = record v.since { stored = true } }

-- the view after the poisoning of the whole content
abbrev pub poisoned : Title → View → View
poisoned t v = record v {
  words = filled_with poison t (content_count t) v.words;
  owns = changed (is_own_of t) (poisoned_to (content_count t)) v.owns;
  since = record v.since { poisoned = true };
}

-- the seat after the poisoning of the title's whole content
abbrev pub poisoned_share : Title → Share → Share
poisoned_share t s = record s { view = poisoned t s.view }

-- the view after stores of the value to the first n content words of an Own
abbrev pub writes_to : Title → ℕ → ℕ → View → View
writes_to t value zero v = v
writes_to t value (suc n) v = record v {
  words = filled_with value t (suc n) v.words;
  owns = changed (is_own_of t) dirty v.owns;
  since = record v.since { stored = true };
}

-- the view after stores of the value to the title's whole content
abbrev pub filled : Title → ℕ → View → View
filled t value v = record v {
  words = filled_with value t (content_count t) v.words;
  owns = changed (is_own_of t) dirty v.owns;
  since = record v.since { stored = true };
}

-- the seat after stores of the value to the title's whole content
abbrev pub filled_share : Title → ℕ → Share → Share
filled_share t value s = record s { view = filled t value s.view }
