pub mod PlanPrecedences
