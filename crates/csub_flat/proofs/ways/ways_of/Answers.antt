use Rattle.csub_flat.proofs.ways.ways_of.Goals as goal

pub returns : goal.returns
returns c = record {
  onward = record { some = c.way_along-next.ensures.some; none = c.way_along-next.ensures.none };
  if_true = record { some = c.way_along-on_true.ensures.some; none = c.way_along-on_true.ensures.none };
  if_false = record { some = c.way_along-on_false.ensures.some; none = c.way_along-on_false.ensures.none };
  otherwise = record { some = c.default_way-otherwise.ensures.some; none = c.default_way-otherwise.ensures.none };
  cases = c.in_ok-cases.ensures;
}
