use Rattle.std.proofs.Common.{◌≡◌, ◌+◌, ◌||◌, Bool, true, false, rules, refl}
use Rattle.clr_rows.specs.Names.{live_name}
use Rattle.clr_cert.specs.declared.certificates.Certificate.{Certificate}
use Rattle.clr_cert.specs.declared.items.Item.{Item}
use Rattle.clr_cert.specs.declared.items.Item.TheVariants.{Root, Member, Before, Need}
use Rattle.clr_cert.specs.Certificates.{is_root_item, with_next}
use Rattle.clr_cert.proofs.ItemTurns.{one_more, stops, whole}
use Rattle.clr_cert.proofs.reading.read_records.Goals as goal

pub returns-in-Err : goal.returns-in-Err
returns-in-Err c =
    rw c.numbered_fault.ensures (stops c.args.schema.now c.in-Err.fault c.loop-i.rooted c.loop-i.certificate (c.loop-i.i + 1) c.args.records.now c.loop-i.i _ _
    c.loop-i-test.true c.index-records-i.is c.in-Err.ensures c.loop-i.invariant.so_far)

-- the root stays where the next record names none
root_stays : (rooted : Bool) (front : Certificate) (item : Item) → (rooted ≡ false → front.root ≡ live_name) → (rooted || is_root_item item) ≡ false
    → (with_next front item).root ≡ live_name
root_stays true front item live e = absurd cc
root_stays false front (Root name) live e = absurd cc
root_stays false front (Member name) live e = live refl
root_stays false front (Before p) live e = live refl
root_stays false front (Need entry) live e = live refl

pub loop-i-preserved : goal.loop-i-preserved
loop-i-preserved c =
    let item = c.in-Ok-read_item.item in
    let next : c.add.new.certificate ≡ with_next c.loop-i.certificate item = search rules in
    rw (next, c.is_root-rooted.ensures) (record {
      so_far = one_more c.args.schema.now c.loop-i.rooted c.loop-i.certificate (c.loop-i.i + 1) c.args.records.now c.loop-i.i _ item _ c.loop-i-test.true
          c.index-records-i.is c.in-Ok-read_item.ensures c.loop-i.invariant.so_far;
      live = root_stays c.loop-i.rooted c.loop-i.certificate item c.loop-i.invariant.live;
    })

pub returns : goal.returns
returns c = whole c.args.schema.now c.loop-i.rooted c.loop-i.certificate (c.loop-i.i + 1) c.args.records.now c.loop-i.i _ c.loop-i-test.false
    c.loop-i.invariant.live c.loop-i.invariant.so_far
