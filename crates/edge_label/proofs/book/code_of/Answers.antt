use Rattle.std.proofs.Common.{subst, rules}
use Rattle.csub_semantics.specs.Labels.{label_tree}
use Rattle.csub_semantics.specs.Globals.{globals_of}
use Rattle.label_code.specs.Bare.{bare_label}
use Rattle.label_code.specs.Codes.{label_code}
use Rattle.edge_label.specs.Tables.{AppendsNumbers, AppendsGlobals}
use Rattle.edge_label.proofs.TableLemmas.{AppendsNumbers-both}
use Rattle.edge_label.proofs.book.code_of.Goals as goal

pub returns : goal.returns
returns c = λ tables globals have index.
    let bare = label_code (bare_label (label_tree c.args.label.now)) in
    let typed : AppendsNumbers tables.parts have.codes bare c.extend_from_slice.new.self.items = record { numbers = c.args.types.now; appended = search rules; are = have.stand } in
    let named =
    subst (λ names. AppendsGlobals tables (globals_of globals names) c.extend_from_slice.new.self.items c.push_numbers.new.code.items) c.in_ok-names.ensures
    (c.in_ok-push_numbers.ensures tables globals index) in
    record {
      codes = have.codes;
      are = have.are;
      globals = named.0;
      named = named.1;
      written = AppendsNumbers-both tables.parts have.codes named.0 bare _ _ typed named.2;
    }
